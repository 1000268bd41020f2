use Rattle.range_gate.proofs.CellLaws.{no_block, no_byte, none_alone}
use Rattle.range_gate.proofs.laws.ops_without_conflict_share_no_cell.Goals as goal

pub returns-clause-alone : goal.returns-clause-alone
returns-clause-alone c = none_alone

pub returns-clause-blocks : goal.returns-clause-blocks
returns-clause-blocks c = no_block

pub returns-clause-bytes : goal.returns-clause-bytes
returns-clause-bytes c = no_byte
