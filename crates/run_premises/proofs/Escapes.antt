-- Ops that supply no escape, whatever stands in the pages.
use Rattle.std.proofs.Common.{◌≡◌, ℕ, zero, suc, ◌%◌, ◌^◌, ◌+◌, true, false, eqb, List, [], ◌∷◌, refl}
use Rattle.std.specs.List.{list_all}
use Rattle.std.proofs.lemmas.Bool.{and_left, and_parts, false≢true, not-true}
use Rattle.pi_tuple.specs.Finds.{is_escaped}
use Rattle.pi_tuple.specs.declared.tuple.Tuple.{Tuple}
use Rattle.pi_tuple.specs.declared.checks.PiType.{PiType}
use Rattle.pi_tuple.specs.declared.checks.PiType.TheVariants.{One, Three, Two, Zero}
use Rattle.page_pool.specs.Cells.{gather}
use Rattle.integrity_payload.specs.declared.payload.Owner.TheVariants.{Block as OfBlock, App as OfApp}
use Rattle.stack_ops.specs.declared.op.Op.{Op}
use Rattle.stack_ops.specs.declared.op.Op.TheVariants.{Fetch, FetchPi, Fill, Overwrite, Put, Seal, Show, Wait, Write, WritePi}
use Rattle.block_path.specs.Acts.{State, act}
use Rattle.block_path.specs.Blocks.{own_tuple}
use Rattle.block_path.specs.Routes.{host_type}
use Rattle.block_path.specs.Serial.{plain}
use Rattle.run_laws.specs.Passed.{act_of, acts_of, Setting, block_of, route, Reads, Seals, Step, Writes, body_of, each_from, frame_at, steps_of, tuple_of, NoEscape, NoneEscapes, SuppliesNoEscape}
use Rattle.run_premises.specs.Forms.{supplies_none}

-- another application tag than FFFFh is no escape
pub unescaped : (ty : PiType) (t : Tuple) → eqb t.app 0xFFFF ≡ false → is_escaped ty t ≡ false
unescaped Zero t h = refl
unescaped One t h = h
unescaped Two t h = h
unescaped Three t h = and_left (eqb t.app 0xFFFF) (eqb t.rtag 0xFFFF_FFFF) h

module _ (m : Setting) where
  each_none : (k n : ℕ) (f : ℕ → Step) (s : State) → ((j : ℕ) (s : State) → SuppliesNoEscape m (f j) s) → NoneEscapes m (each_from k n f) s
  each_none k zero f s h = tt
  each_none k (suc n) f s h = (h k s, each_none (suc k) n f (act (act_of m (f k)) s) h)

  op_none : (i : ℕ) (op : Op) (s : State) → supplies_none op ≡ true → NoneEscapes m (steps_of m i op) s
  op_none i (Fill seg byte) s h = (tt, tt)
  op_none i (Put page off bytes) s h = (tt, tt)
  op_none i (Show seg) s h = (tt, tt)
  op_none i (Seal n body tuples app rtag) s h = each_none 0 n (λ k. Seals (body_of m.size body k) (tuple_of tuples k) app ((rtag + k) % 2 ^ 32)) s (λ j s. tt)
  op_none i (Write v n body app) s h =
      each_none 0 n (λ k. Writes (block_of i v k) app (body_of m.size body k)) s (λ j s on. unescaped (host_type m.ty) (own_tuple (route m (block_of i v j)) app (gather 0 (body_of m.size body j) s.bytes)) (not-true _ h))
  op_none i (Fetch v n body) s h = each_none 0 n (λ k. Reads (block_of i v k) OfBlock (body_of m.size body k)) s (λ j s. tt)
  op_none i (WritePi v n body tuples) s h = absurd (false≢true h)
  op_none i (FetchPi v n body tuples) s h = each_none 0 n (λ k. Reads (block_of i v k) OfApp (frame_at m.size body tuples k)) s (λ j s. tt)
  op_none i (Overwrite dev lba change) s h = (tt, tt)
  op_none i Wait s h = tt

  pub none_supplied : (i : ℕ) (ops : List Op) (s : State) → list_all supplies_none ops ≡ true → NoEscape m i ops s
  none_supplied i [] s h = tt
  none_supplied i (op ∷ ops) s h =
      let p = and_parts (supplies_none op) (list_all supplies_none ops) h in
      (op_none i op s p.0, none_supplied (suc i) ops (plain act (acts_of m i op) s) p.1)
