-- Ops that supply no escape on either leg, whatever stands in the pages.
use Rattle.std.proofs.Common.{◌≡◌, ℕ, zero, suc, ◌%◌, ◌^◌, ◌+◌, Bool, true, false, List, [], ◌∷◌, ◌++◌}
use Rattle.std.specs.List.{list_all}
use Rattle.std.proofs.lemmas.Bool.{and_parts, false≢true, not-true}
use Rattle.std.specs.Prelude.{eqb}
use Rattle.page_pool.specs.Cells.{gather}
use Rattle.integrity_payload.specs.declared.payload.Owner.{Owner}
use Rattle.integrity_payload.specs.declared.payload.Owner.TheVariants.{Block as OfBlock, App as OfApp}
use Rattle.stack_ops.specs.declared.op.Op.{Op}
use Rattle.stack_ops.specs.declared.op.Op.TheVariants.{Fetch, FetchPi, Fill, Overwrite, Put, Seal, Show, Wait, Write, WritePi}
use Rattle.block_path.specs.Acts.{State, act}
use Rattle.block_path.specs.Blocks.{own_tuple}
use Rattle.block_path.specs.Routes.{host_type}
use Rattle.walk_laws.specs.Past.{steps_from}
use Rattle.walk_laws.specs.ScriptWalk.{act_of}
use Rattle.walk_laws.specs.Settings.{Block, Setting, block_of, route}
use Rattle.walk_laws.specs.Steps.{Alters, Reads, Seals, Sets, Shows, Step, Writes, WritesPi, body_of, each_from, frame_at, steps_of, tuple_of}
use Rattle.walk_laws.specs.UnderMap.{NoneEscapes, SuppliesNoEscape}
use Rattle.run_premises.specs.Forms.{supplies_none}
use Rattle.run_premises.proofs.Escapes.{unescaped}
use Rattle.mirror_laws.specs.Mirror.{Mirror, all_asked, asked, asks, count_of, done, mirror_opened}
use Rattle.mirror_laws.specs.OneGood.{script_asks}

-- a step by its form
abbrev Bare : Step → Type 0
Bare (Sets at values) = Unit {0}
Bare (Shows at) = Unit {0}
Bare (Seals body tuple app rtag) = Unit {0}
Bare (Writes b app body) = eqb app 0xFFFF ≡ false
Bare (WritesPi b frame) = ⊥
Bare (Reads b owner to) = Unit {0}
Bare (Alters dev lba change) = Unit {0}

abbrev AllBare : List Step → Type 0
AllBare [] = Unit {0}
AllBare (step ∷ steps) = Bare step × AllBare steps

both : (xs ys : List Step) → AllBare xs → AllBare ys → AllBare (xs ++ ys)
both [] ys h k = k
both (x ∷ xs) ys h k = (h.0, both xs ys h.1 k)

each : (k n : ℕ) (f : ℕ → Step) → ((j : ℕ) → Bare (f j)) → AllBare (each_from k n f)
each k zero f h = tt
each k (suc n) f h = (h k, each (suc k) n f h)

op_bare : (m : Setting) (i : ℕ) (op : Op) → supplies_none op ≡ true → AllBare (steps_of m i op)
op_bare m i (Fill seg byte) h = (tt, tt)
op_bare m i (Put page off bytes) h = (tt, tt)
op_bare m i (Show seg) h = (tt, tt)
op_bare m i (Seal n body tuples app rtag) h = each 0 n (λ k. Seals (body_of m.size body k) (tuple_of tuples k) app ((rtag + k) % 2 ^ 32)) (λ j. tt)
op_bare m i (Write v n body app) h = each 0 n (λ k. Writes (block_of i v k) app (body_of m.size body k)) (λ j. not-true _ h)
op_bare m i (Fetch v n body) h = each 0 n (λ k. Reads (block_of i v k) OfBlock (body_of m.size body k)) (λ j. tt)
op_bare m i (WritePi v n body tuples) h = absurd (false≢true h)
op_bare m i (FetchPi v n body tuples) h = each 0 n (λ k. Reads (block_of i v k) OfApp (frame_at m.size body tuples k)) (λ j. tt)
op_bare m i (Overwrite dev lba change) h = (tt, tt)
op_bare m i Wait h = tt

ops_bare : (m : Setting) (i : ℕ) (ops : List Op) → list_all supplies_none ops ≡ true → AllBare (steps_from m i ops)
ops_bare m i [] h = tt
ops_bare m i (op ∷ ops) h = let p = and_parts (supplies_none op) (list_all supplies_none ops) h in both (steps_of m i op) (steps_from m (suc i) ops) (op_bare m i op p.0) (ops_bare m (suc i) ops p.1)

module _ (m : Setting) (half : ℕ) (count : ℕ → ℕ) where
  read_bare : (f0 f1 d : Bool) (b c : Block) (owner : Owner) (to : List ℕ) → AllBare (asked f0 f1 d (Reads b owner to) (Reads c owner to))
  read_bare true true true b c owner to = (tt, tt)
  read_bare true true false b c owner to = (tt, (tt, tt))
  read_bare true false d b c owner to = (tt, tt)
  read_bare false f1 d b c owner to = (tt, tt)

  asks_bare : (step : Step) (s : Mirror) → Bare step → AllBare (asks m half count step s)
  asks_bare (Sets at values) s h = (tt, tt)
  asks_bare (Shows at) s h = (tt, tt)
  asks_bare (Seals body tuple app rtag) s h = (tt, tt)
  asks_bare (Writes b app body) s h = (h, (h, tt))
  asks_bare (WritesPi b frame) s h = tt
  asks_bare (Reads b owner to) s h = read_bare _ _ _ b _ owner to
  asks_bare (Alters dev lba change) s h = (tt, tt)

  all_bare : (steps : List Step) (s : Mirror) → AllBare steps → AllBare (all_asked m half count steps s)
  all_bare [] s h = tt
  all_bare (step ∷ steps) s h = both (asks m half count step s) (all_asked m half count steps (done m half count step s)) (asks_bare step s h.0) (all_bare steps (done m half count step s) h.1)

step_none : (m : Setting) (step : Step) (s : State) → Bare step → SuppliesNoEscape m step s
step_none m (Sets at values) s h = tt
step_none m (Shows at) s h = tt
step_none m (Seals body tuple app rtag) s h = tt
step_none m (Writes b app body) s h = λ on. unescaped (host_type m.ty) (own_tuple (route m b) app (gather 0 body s.bytes)) h
step_none m (WritesPi b frame) s h = absurd h
step_none m (Reads b owner to) s h = tt
step_none m (Alters dev lba change) s h = tt

all_none : (m : Setting) (steps : List Step) (s : State) → AllBare steps → NoneEscapes m steps s
all_none m [] s h = tt
all_none m (step ∷ steps) s h = (step_none m step s h.0, all_none m steps (act (act_of m step) s) h.1)

pub none_supplied : (m : Setting) (half : ℕ) (ops : List Op) (opening : State) → list_all supplies_none ops ≡ true → NoneEscapes m (script_asks m half ops opening) opening
none_supplied m half ops opening h = all_none m (script_asks m half ops opening) opening (all_bare m half (count_of ops) (steps_from m 1 ops) (mirror_opened half opening) (ops_bare m 1 ops h))
