-- Steps one after another.
use Rattle.std.proofs.Common.{◌≤◌, ℕ, ◌++◌, ◌∙◌, ap, refl, arith}
use Rattle.std.specs.List.{list_any}
use Rattle.std.proofs.lemmas.List.{append_assoc}
use Rattle.dix_base.proofs.Counts.{calm_then}
use Rattle.dix_base.specs.Told.{Calm}
use Rattle.rig_api.specs.State.{RigState}
use Rattle.stack_core.proofs.Passed.{puts_nothing, puts_then}
use Rattle.script_text.specs.Passed.{is_overwrite}
use Rattle.stack_core.specs.declared.sheet.Sheet.{Sheet}
use Rattle.stack_core.specs.Stacks.{GoesOn, StackStays}
use Rattle.stack_core.specs.declared.stack.Stack.{Stack}
use Rattle.stack_core.specs.Going.{Went}

pub went_nowhere : (s : Stack) (o : RigState) → Went s o s o
went_nowhere s o = record { walks = λ m n opening first w. w; falling = λ m n opening first w. w; told = λ m n opening first calm w. w; silent = λ calm z. z; faults = omega arith; counts = λ first h. h; sheet = refl; answered = λ m n opening first w none. puts_nothing o o refl refl refl refl }

-- a count that didn't rise over two steps rose over neither
first_calm : (n n' n'' : ℕ) → n ≤ n' → n' ≤ n'' → Calm n n'' → Calm n n'
first_calm n n' n'' a b calm = let x = calm.0 in let y = calm.1 in (omega (arith, a, b, x), omega (arith, a, b, y))

pub went_on : (s : Stack) (o : RigState) (s' : Stack) (o' : RigState) (s'' : Stack) (o'' : RigState) → Went s o s' o' → Went s' o' s'' o'' → Went s o s'' o''
went_on s o s' o' s'' o'' a b = record {
  walks = λ m n opening first w. b.walks m n opening first (a.walks m n opening first w);
  falling = λ m n opening first w. b.falling m n opening first (a.falling m n opening first w);
  told = λ m n opening first calm w. b.told m n opening first (calm_then o.faults o'.faults o''.faults a.faults calm) (a.told m n opening first (first_calm o.faults o'.faults o''.faults a.faults b.faults calm) w);
  silent = λ calm z. b.silent (calm_then o.faults o'.faults o''.faults a.faults calm) (a.silent (first_calm o.faults o'.faults o''.faults a.faults b.faults calm) z);
  faults = (let x = a.faults in let y = b.faults in omega arith);
  counts = λ first h. b.counts first (a.counts first h);
  sheet = b.sheet ∙ a.sheet;
  answered = λ m n opening first w none.
      puts_then o o' o'' a.faults b.faults (a.answered m n opening first w none) (b.answered m n opening first (a.walks m n opening first w) (ap (λ (x : Sheet). list_any is_overwrite x.ops) a.sheet ∙ none));
}

-- and goes on from one to the next
pub goes_then : (s s' s'' : RigState) → GoesOn s s' → GoesOn s' s'' → GoesOn s s''
goes_then s s' s'' a b = record {
  standing = b.standing ∙ a.standing;
  more = a.more ++ b.more;
  records = b.records ∙ (ap (λ l. l ++ b.more) a.records ∙ append_assoc s.log a.more b.more);
  faults = (let x = a.faults in let y = b.faults in omega arith);
}

pub stays_then : (s s' s'' : Stack) → StackStays s s' → StackStays s' s'' → StackStays s s''
stays_then s s' s'' a b = record { sheet = b.sheet ∙ a.sheet; adapter = b.adapter ∙ a.adapter; host = b.host ∙ a.host }
