-- What the blocks of a run's writes have, by whether each fault can be shown, or is of a block that the medium fails, loses or misdirects.
use Rattle.std.proofs.Common.{◌≡◌, ◌<◌, ℕ, zero, suc, ◌+◌, ◌%◌, ◌^◌, Bool, true, ◌&&◌, List, [], ◌∷◌, ◌++◌, refl, arith}
use Rattle.std.proofs.lemmas.Bool.{and_parts}
use Rattle.integrity_payload.specs.declared.payload.Owner.TheVariants.{Block as OfBlock, App as OfApp}
use Rattle.walk_laws.specs.Passed.{Op, Fetch, FetchPi, Fill, Overwrite, Put, Seal, Show, Wait, Write, WritePi, State, act, DeviceInfo}
use Rattle.walk_laws.specs.Detectable.{accounted, detectable, step_shows}
use Rattle.walk_laws.specs.FirstLayer.{is_at_home}
use Rattle.walk_laws.specs.Past.{steps_from}
use Rattle.walk_laws.specs.ScriptWalk.{act_of}
use Rattle.walk_laws.specs.Settings.{Block, Setting, block_of}
use Rattle.walk_laws.specs.Steps.{Reads, Seals, Step, Writes, WritesPi, body_of, each_from, frame_at, steps_of, tuple_of}
use Rattle.run_laws.specs.ShownRun.{AllLand, HasCells, Lands, LiesOn}
use Rattle.run_laws.proofs.Along.{accounts, placed}
use Rattle.run_laws.proofs.Counted.{AllPlaced, Placed}
use Rattle.run_laws.proofs.Layers.{checked}

module _ (m' : Setting) (devices : List DeviceInfo) (lies : LiesOn (checked m') devices) (opening : State) (cells : HasCells (checked m') devices opening.blocks) where
  abbrev m : Setting
  m = checked m'

  -- where each fault can be shown, each accepted write counts, and each fault is accounted for
  pub all_placed : (steps : List Step) (s : State) → detectable m steps s ≡ true → AllPlaced m' devices lies opening cells (λ a. true) steps
  all_placed [] s h = tt
  all_placed (step ∷ steps) s h =
      let next = act (act_of m step) s in
      let p = and_parts (step_shows m step s) (detectable m steps next) h in
      (placed m' devices lies opening cells step s p.0, all_placed steps next p.1)

  pub all_accounted : (steps : List Step) (s : State) → detectable m steps s ≡ true → accounted m steps s ≡ true
  all_accounted [] s h = refl
  all_accounted (step ∷ steps) s h =
      let next = act (act_of m step) s in
      let p = and_parts (step_shows m step s) (detectable m steps next) h in
      λ i. accounts m step s p.0 i && all_accounted steps next p.1 i

  -- what binding gives each block of a write that counts where it is stored at home
  abbrev home : Block → Bool
  home = is_at_home m

  abbrev AllPlacedIn : List Step → Type 0
  AllPlacedIn steps = AllPlaced m' devices lies opening cells home steps

  each_placed : (k n : ℕ) (f : ℕ → Step) → ((j : ℕ) → j < k + n → Placed m' devices lies opening cells home (f j)) → AllPlacedIn (each_from k n f)
  each_placed k zero f h = tt
  each_placed k (suc n) f h = (h k (omega arith), each_placed (suc k) n f (λ j l. h j (omega (arith, l))))

  placed_both : (xs ys : List Step) → AllPlacedIn xs → AllPlacedIn ys → AllPlacedIn (xs ++ ys)
  placed_both [] ys h k = k
  placed_both (x ∷ xs) ys h k = (h.0, placed_both xs ys h.1 k)

  op_placed : (i : ℕ) (op : Op) → Lands m devices i op → AllPlacedIn (steps_of m i op)
  op_placed i (Fill seg byte) h = (tt, tt)
  op_placed i (Put page off values) h = (tt, tt)
  op_placed i (Show seg) h = (tt, tt)
  op_placed i (Seal n body tuples app rtag) h = each_placed 0 n (λ k. Seals (body_of m.size body k) (tuple_of tuples k) app ((rtag + k) % 2 ^ 32)) (λ j l. tt)
  op_placed i (Write v n body app) h = each_placed 0 n (λ k. Writes (block_of i v k) app (body_of m.size body k)) (λ j l. record { lands = h j (omega (arith, l)); counted = refl })
  op_placed i (Fetch v n body) h = each_placed 0 n (λ k. Reads (block_of i v k) OfBlock (body_of m.size body k)) (λ j l. tt)
  op_placed i (WritePi v n body tuples) h = each_placed 0 n (λ k. WritesPi (block_of i v k) (frame_at m.size body tuples k)) (λ j l. record { lands = h j (omega (arith, l)); counted = refl })
  op_placed i (FetchPi v n body tuples) h = each_placed 0 n (λ k. Reads (block_of i v k) OfApp (frame_at m.size body tuples k)) (λ j l. tt)
  op_placed i (Overwrite dev lba change) h = (tt, tt)
  op_placed i Wait h = tt

  pub ops_placed : (i : ℕ) (ops : List Op) → AllLand m devices i ops → AllPlacedIn (steps_from m i ops)
  ops_placed i [] h = tt
  ops_placed i (op ∷ ops) h = placed_both (steps_of m i op) (steps_from m (suc i) ops) (op_placed i op h.0) (ops_placed (suc i) ops h.1)
