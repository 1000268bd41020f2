use Rattle.std.proofs.Common.{◌≡◌, ◌++◌, drop}
use Rattle.walk_laws.specs.ScriptWalk.{bad_from}
use Rattle.mirror_volume.proofs.replies.request_reply.Given as goal

abbrev pub invariant-loop-k : goal.invariant-loop-k
invariant-loop-k l = l.bad.items ++ bad_from l.k (drop l.k l.listed) ≡ bad_from 0 l.listed
