-- A generated script over formatted blocks: they are clean, no write supplies an escape, and on the plain map no block fails.
use Rattle.std.proofs.Common.{ℕ, zero, suc, ◌≡◌, ◌*◌, ◌<◌, Bool, true, false, eqb, List, [], ◌∷◌, get_or, map, replicate, Some, None, refl, sym, ap, subst, ◌∙◌, arith}
use Rattle.std.specs.Prelude.{if◌then◌else◌, bit_and}
use Rattle.std.specs.Int.Bits.{and_zero_r}
use Rattle.std.proofs.lemmas.Bool.Decides.{nat_tests}
use Rattle.pi_guard.specs.Guards.{crc}
use Rattle.pi_guard.specs.declared.GuardKind.TheVariants.{Ip}
use Rattle.pi_tuple.specs.Finds.{is_escaped}
use Rattle.pi_tuple.specs.declared.checks.Check.TheVariants.{AppTag}
use Rattle.pi_tuple.specs.declared.checks.PiType.TheVariants.{One}
use Rattle.page_pool.specs.declared.segs.Seg.{Seg}
use Rattle.integrity_payload.specs.declared.payload.Owner.TheVariants.{Block as OfBlock}
use Rattle.rig_api.specs.Image.{fresh}
use Rattle.rig_api.specs.declared.units.UnitSpec.{UnitSpec}
use Rattle.rig_discovery.specs.Discovery.{info_of}
use Rattle.block_path.specs.Acts.{State}
use Rattle.block_path.specs.Blocks.{Site}
use Rattle.block_path.specs.Serial.{plain_tells}
use Rattle.block_path.specs.declared.mode.Mode.{Mode}
use Rattle.dix_adapter.specs.Ways.{blocks_told, cell_in}
use Rattle.stack_ops.specs.declared.op.Op.{Op}
use Rattle.stack_ops.specs.declared.op.Op.TheVariants.{Fill, Show, Write, Fetch}
use Rattle.stack_ops.specs.declared.reply.Reply.{Reply}
use Rattle.stack_ops.specs.declared.reply.Reply.TheVariants.{Silent, Whole, Bad, Shown, Medium}
use Rattle.stack_ops.specs.Ops.{is_overwrite}
use Rattle.volume_table.specs.Places.{place_in, volume_len}
use Rattle.volume_table.specs.Tables.{MadeFor, Table}
use Rattle.run_command.specs.Passed.{IsAddress}
use Rattle.run_command.proofs.Passed.{place-there}
use Rattle.script_text.specs.Generator.{after_op, big_entries, drawn, next_state, op_from, ops_from, page_start}
use Rattle.std.specs.List.{list_any}
use Rattle.std.proofs.lemmas.Bool.{or_from}
use Rattle.walk_laws.specs.PlainMap.{Plain, as_expected, finds_plainly, plain_answer, plain_replies_from, plain_step}
use Rattle.walk_laws.specs.ScriptWalk.{bad_from, reply_of, whole_or_bad}
use Rattle.walk_laws.specs.Settings.{Setting, block_of}
use Rattle.walk_laws.specs.Steps.{Reads, Step, Writes, body_of, each_from, steps_of}
use Rattle.walk_laws.specs.UnderMap.{AreClean, IsClean, NoEscape, NoneEscapes}
use Rattle.big_run.specs.Plain.{fresh_unit}
use Rattle.big_run.proofs.Fresh.{AllOf, cell_is, data_found, tuple_found}

abbrev big_mode : Mode
big_mode = record { kind = Ip; dix = true; dif = true; protect = 1; app = 0; mask = 0 }

-- what a generated script runs with, wherever its blocks go
abbrev pub within : Site → (ℕ → Bool) → Setting
within site fails = record { mode = big_mode; ty = One; size = 512; entries = big_entries; site = site; fails = fails }

-- ---- replies that list no block

abbrev pub IsQuiet : Reply → Type 0
IsQuiet Silent = Unit {0}
IsQuiet Whole = Unit {0}
IsQuiet (Bad blocks) = ⊥
IsQuiet (Shown bytes) = Unit {0}
IsQuiet Medium = ⊥

abbrev pub AreQuiet : List Reply → Type 0
AreQuiet [] = Unit {0}
AreQuiet (r ∷ rs) = IsQuiet r × AreQuiet rs

-- ---- clean blocks

crc_of_zeros : crc (replicate 512 0) ≡ 0
unfolding crc
crc_of_zeros = refl

block_clean : (site : Site) (fails : ℕ → Bool) (lba : ℕ) → IsClean (within site fails) lba (fresh One 512 lba)
block_clean site fails lba = let t = tuple_found 512 lba in record {
  no_escape = ap (is_escaped One) t;
  guard = ap (λ u. u.guard) t ∙ sym crc_of_zeros ∙ ap crc (sym (data_found 512 lba));
  app = ap (λ u. as_expected (within site fails) u.app) t;
  rtag = λ h. ap (λ u. u.rtag) t;
}

pub are_clean : (site : Site) (fails : ℕ → Bool) (t : Table) (us : List UnitSpec) → t.entries ≡ big_entries → MadeFor t (map info_of us) 512 → AllOf One 512 us → site.cell ≡ cell_in us → AreClean (within site fails) (blocks_told (map fresh_unit us))
are_clean site fails t us e made all cell v l z =
    let lba = (place_in big_entries v).1 in
    let dev = (place_in big_entries v).0 in
    let there = subst (λ es. IsAddress (map info_of us) (place_in es v).0 (place_in es v).1) e (place-there t (map info_of us) 512 v made (subst (λ es. v < volume_len es) (sym e) l)) in
    subst (IsClean (within site fails) lba) (sym (ap (λ (c : ℕ → ℕ → ℕ). get_or (blocks_told (map fresh_unit us)) (c dev lba) []) cell ∙ cell_is One 512 us all dev lba there)) (block_clean site fails lba)

-- ---- ops, by their kind

-- an op that is drawn, by whether its kind is 0, 1 or 2
abbrev op_as : (a b c : Bool) (n v page byte tag : ℕ) → Op
op_as a b c n v page byte tag =
    if a then Fill (page_start page 4096) byte else (if b then Write v n (page_start page (512 * n) ∷ []) tag else (if c then Fetch v n (page_start page (512 * n) ∷ []) else Show (page_start page 16)))

-- the steps of a write and of a read, from block k on
abbrev writing : (i v tag : ℕ) (body : List Seg) (k n : ℕ) → List Step
writing i v tag body k n = each_from k n (λ j. Writes (block_of i v j) tag (body_of 512 body j))

abbrev reading : (i v : ℕ) (body : List Seg) (k n : ℕ) → List Step
reading i v body k n = each_from k n (λ j. Reads (block_of i v j) OfBlock (body_of 512 body j))

tag_below : (x : ℕ) → drawn 65535 x < 65535
tag_below x = omega arith

-- ---- no overwrite

op_kept : (a b c : Bool) (n v page byte tag : ℕ) → is_overwrite (op_as a b c n v page byte tag) ≡ false
op_kept true b c n v page byte tag = refl
op_kept false true c n v page byte tag = refl
op_kept false false true n v page byte tag = refl
op_kept false false false n v page byte tag = refl

pub none_overwrites : (n x : ℕ) → list_any is_overwrite (ops_from n x) ≡ false
none_overwrites zero x = refl
none_overwrites (suc n) x =
    or_from (is_overwrite (op_from x)) (list_any is_overwrite (ops_from n (after_op x)))
    (op_kept (eqb (drawn 4 (next_state x)) 0) (eqb (drawn 4 (next_state x)) 1) (eqb (drawn 4 (next_state x)) 2) _ _ _ _ _) (none_overwrites n (after_op x))

module _ (site : Site) (fails : ℕ → Bool) where
  -- ---- no escape

  no_escape : (tag : ℕ) → tag < 65535 → eqb tag 65535 ≡ false
  no_escape tag h = grind (arith, nat_tests)

  writes_none : (i v tag : ℕ) (body : List Seg) (k n : ℕ) (s : State) → tag < 65535 → NoneEscapes (within site fails) (writing i v tag body k n) s
  writes_none i v tag body k zero s h = tt
  writes_none i v tag body k (suc n) s h = (λ d. no_escape tag h, writes_none i v tag body (suc k) n _ h)

  reads_none : (i v : ℕ) (body : List Seg) (k n : ℕ) (s : State) → NoneEscapes (within site fails) (reading i v body k n) s
  reads_none i v body k zero s = tt
  reads_none i v body k (suc n) s = (tt, reads_none i v body (suc k) n _)

  op_none : (i : ℕ) (s : State) (a b c : Bool) (n v page byte tag : ℕ) → tag < 65535 → NoneEscapes (within site fails) (steps_of (within site fails) i (op_as a b c n v page byte tag)) s
  op_none i s true b c n v page byte tag h = (tt, tt)
  op_none i s false true c n v page byte tag h = writes_none i v tag (page_start page (512 * n) ∷ []) 0 n s h
  op_none i s false false true n v page byte tag h = reads_none i v (page_start page (512 * n) ∷ []) 0 n s
  op_none i s false false false n v page byte tag h = (tt, tt)

  pub none_escapes : (i n x : ℕ) (s : State) → NoEscape (within site fails) i (ops_from n x) s
  none_escapes i zero x s = tt
  none_escapes i (suc n) x s =
      (op_none i s (eqb (drawn 4 (next_state x)) 0) (eqb (drawn 4 (next_state x)) 1) (eqb (drawn 4 (next_state x)) 2) _ _ _ _ _ (tag_below _), none_escapes (suc i) n (after_op x) _)

  -- ---- replies

  accepted : (app : ℕ) → finds_plainly (within site fails) app ≡ None
  accepted app = ap (λ x. if eqb x (bit_and 0 0) then None else Some AppTag) (and_zero_r app)

  writes_whole : (i v tag : ℕ) (body : List Seg) (j k n : ℕ) (s : Plain)
      → bad_from j (map (λ a. a.why) (plain_tells (plain_step (within site fails)) (plain_answer (within site fails)) (writing i v tag body k n) s)) ≡ []
  writes_whole i v tag body j k zero s = refl
  writes_whole i v tag body j k (suc n) s = rw (accepted tag) (writes_whole i v tag body (suc j) (suc k) n _)

  reads_whole : (i v : ℕ) (body : List Seg) (j k n : ℕ) (s : Plain) → bad_from j (map (λ a. a.why) (plain_tells (plain_step (within site fails)) (plain_answer (within site fails)) (reading i v body k n) s)) ≡ []
  reads_whole i v body j k zero s = refl
  reads_whole i v body j k (suc n) s = reads_whole i v body (suc j) (suc k) n _

  op_quiet : (i : ℕ) (s : Plain) (a b c : Bool) (n v page byte tag : ℕ) → let op = op_as a b c n v page byte tag in
      IsQuiet (reply_of false op (plain_tells (plain_step (within site fails)) (plain_answer (within site fails)) (steps_of (within site fails) i op) s))
  op_quiet i s true b c n v page byte tag = tt
  op_quiet i s false true c n v page byte tag = subst (λ bad. IsQuiet (whole_or_bad bad)) (sym (writes_whole i v tag (page_start page (512 * n) ∷ []) 0 0 n s)) tt
  op_quiet i s false false true n v page byte tag = subst (λ bad. IsQuiet (whole_or_bad bad)) (sym (reads_whole i v (page_start page (512 * n) ∷ []) 0 0 n s)) tt
  op_quiet i s false false false n v page byte tag = tt

  pub replies_quiet : (i n x : ℕ) (s : Plain) → AreQuiet (plain_replies_from (within site fails) i (ops_from n x) s)
  replies_quiet i zero x s = tt
  replies_quiet i (suc n) x s =
      (op_quiet i s (eqb (drawn 4 (next_state x)) 0) (eqb (drawn 4 (next_state x)) 1) (eqb (drawn 4 (next_state x)) 2) _ _ _ _ _, replies_quiet (suc i) n (after_op x) _)
