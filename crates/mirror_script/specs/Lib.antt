pub mod MirrorFaults
