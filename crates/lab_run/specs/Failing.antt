use Rattle.std.specs.Prelude.{◌≡◌}
use Rattle.call_verdict.specs.Verdicts.{WholeOrWants, Work}
use Rattle.call_verdict.specs.declared.status.Status.TheVariants as status
use Rattle.mode_map.specs.Failures.{AreFailuresFound}
use Rattle.mode_map.specs.FailureTable.{failures_text}
use Rattle.pi_tuple.specs.declared.checks.PiType.{PiType}
use Rattle.lab_run.specs.Texts.{lab, no_memory}

-- ---- failures T: the table of the type was told, of whose failures each run comes to its cell

abbrev pub failures_work : PiType → Work lab
failures_work ty = record {
  Yield = Unit {0};
  WasDone = λ x f. AreFailuresFound;
  status = λ x. status.Whole;
  text = λ x. failures_text ty;
  WasRefused = λ r f. r ≡ no_memory;
  Answers = λ f s. WholeOrWants s;
}
