-- From steps to ops, and from a setting without faults to its own form.
use Rattle.std.proofs.Common.{◌≡◌, ◌<◌, ◌≤◌, ℕ, zero, suc, ◌+◌, ◌*◌, ◌%◌, ◌^◌, false, List, [], ◌∷◌, length, map, refl, sym, ap, ◌∙◌, subst, arith, length-append}
use Rattle.std.proofs.lemmas.List.{length-map}
use Rattle.std.proofs.Math.Nat.{mul-le-mul_right, suc-mul}
use Rattle.page_pool.specs.declared.segs.Seg.{Seg}
use Rattle.page_pool.specs.Cells.{cell}
use Rattle.page_pool.specs.Places.{range_of, total}
use Rattle.page_pool.proofs.Spreads.{length-range}
use Rattle.block_path.specs.Passed.{Block as OfBlock, App as OfApp}
use Rattle.stack_ops.specs.declared.op.Op.{Op}
use Rattle.stack_ops.specs.declared.op.Op.TheVariants.{Fetch, FetchPi, Fill, Overwrite, Put, Seal, Show, Wait, Write, WritePi}
use Rattle.stack_ops.specs.declared.reply.Reply.{Reply}
use Rattle.volume_table.specs.Places.{volume_len}
use Rattle.block_path.specs.Acts.{State, act}
use Rattle.block_path.specs.Serial.{plain, plain_tells}
use Rattle.block_path.proofs.Cells.{below}
use Rattle.walk_laws.specs.CalmRun.{AllFit, Fits, IsCalm, IsCalmRun, LiesInImage}
use Rattle.walk_laws.specs.PlainMap.{Plain, all_pass, plain_answer, plain_from, plain_map, plain_replies, plain_replies_from, plain_step}
use Rattle.walk_laws.specs.ScriptWalk.{acts_of, replies_from, reply_of, script_replies, script_walk, walk_from}
use Rattle.walk_laws.specs.Settings.{Setting, block_of}
use Rattle.walk_laws.specs.Steps.{Reads, Seals, Step, Writes, WritesPi, body_of, each_from, frame_at, steps_of, tuple_of}
use Rattle.walk_laws.specs.UnderMap.{IsUnder, NoEscape, opened}
use Rattle.walk_laws.proofs.CalmWays.{quiet}
use Rattle.walk_laws.proofs.MapUnder.{map_length, proper_opened, under_opened}
use Rattle.walk_laws.proofs.PlainSteps.{AllMeet, Meets, Stands, all_steps, reply_same}
use Rattle.walk_laws.proofs.TupleFrames.{below_replicate}

pub room : (size k n : ℕ) → k < n → k * size + size ≤ n * size
room size k n l = let up : suc k * size ≤ n * size = mul-le-mul_right size l in let e = suc-mul k size in omega (arith, up, e)

-- the cells of one part of a list
pub part_length : (segs : List Seg) (size k n : ℕ) → total segs ≡ n * size → k < n → length (map cell (range_of segs (k * size) size)) ≡ size
part_length segs size k n e l = length-map (range_of segs (k * size) size) cell ∙ length-range segs (k * size) size (let r = room size k n l in omega (arith, r, e))

pub tuple_length : (segs : List Seg) (k n : ℕ) → total segs ≡ n * 8 → k < n → length (tuple_of segs k) ≡ 8
tuple_length segs k n e l = length-map (range_of segs (8 * k) 8) cell ∙ length-range segs (8 * k) 8 (omega (arith, e, l))

pub frame_length : (size : ℕ) (body tuples : List Seg) (k n : ℕ) → total body ≡ n * size → total tuples ≡ n * 8 → k < n → length (frame_at size body tuples k) ≡ size + 8
frame_length size body tuples k n e f l =
    let a = length-append (body_of size body k) (tuple_of tuples k) in
    let b = part_length body size k n e l in
    let c = tuple_length tuples k n f l in
    omega (arith, a, b, c)

module _ (m : Setting) where
  abbrev count : ℕ
  count = volume_len m.entries

  each_meets : (k n : ℕ) (f : ℕ → Step) → ((j : ℕ) → j < k + n → Meets m count (f j)) → AllMeet m count (each_from k n f)
  each_meets k zero f h = tt
  each_meets k (suc n) f h = (h k (omega arith), each_meets (suc k) n f (λ j l. h j (omega (arith, l))))

  pub op_meets : (i : ℕ) (op : Op) → Fits m op → AllMeet m count (steps_of m i op)
  op_meets i (Fill seg byte) h = (below_replicate 256 seg.len byte h, tt)
  op_meets i (Put page off bytes) h = (below 256 bytes h, tt)
  op_meets i (Show seg) h = (tt, tt)
  op_meets i (Seal n body tuples app rtag) h = each_meets 0 n (λ k. Seals (body_of m.size body k) (tuple_of tuples k) app ((rtag + k) % 2 ^ 32)) (λ j l. tt)
  op_meets i (Write v n body app) h =
      each_meets 0 n (λ k. Writes (block_of i v k) app (body_of m.size body k)) (λ j l. (
        (let w = h.0.within in omega (arith, w, l)),
        (part_length body m.size j n h.0.bytes_are (omega (arith, l)), h.1),
      ))
  op_meets i (Fetch v n body) h = each_meets 0 n (λ k. Reads (block_of i v k) OfBlock (body_of m.size body k)) (λ j l. omega (arith, h, l))
  op_meets i (WritePi v n body tuples) h =
      each_meets 0 n (λ k. WritesPi (block_of i v k) (frame_at m.size body tuples k)) (λ j l. (
        (let w = h.0.within in omega (arith, w, l)),
        (frame_length m.size body tuples j n h.0.bytes_are h.1.0 (omega (arith, l)), h.1.1),
      ))
  op_meets i (FetchPi v n body tuples) h = each_meets 0 n (λ k. Reads (block_of i v k) OfApp (frame_at m.size body tuples k)) (λ j l. omega (arith, h, l))
  op_meets i (Overwrite dev lba change) h = absurd h
  op_meets i Wait h = tt

-- what the law says
pub record Says (m : Setting) (ops : List Op) (opening : State) : Type 0 where
  pub replies : script_replies m ops opening ≡ plain_replies m ops (opened m opening)
  pub under : IsUnder m (plain_map m ops (opened m opening)) opening.blocks (script_walk m ops opening)

module _ (m' : Setting) (image : List (List ℕ)) (protect : 0 < m'.mode.protect) (free : all_pass m' ≡ false → m'.mode.mask ≡ 0)
    (lies : LiesInImage (quiet m' m'.mode.dix m'.mode.dif m'.ty) (volume_len m'.entries) image) where
  abbrev m : Setting
  m = quiet m' m'.mode.dix m'.mode.dif m'.ty

  record OpsLead (replies plain_ones : List Reply) (after : Plain) (now : State) : Type 0 where
    replies_are : replies ≡ plain_ones
    is_under : IsUnder m after image now

  all_ops : (i : ℕ) (ops : List Op) (s : Plain) (c : State) → AllFit m ops → NoEscape m i ops c → Stands m (volume_len m'.entries) s → IsUnder m s image c →
      OpsLead (replies_from m i ops c) (plain_replies_from m i ops s) (plain_from m i ops s) (walk_from m i ops c)
  all_ops i [] s c fit escape h u = record { replies_are = refl; is_under = u }
  all_ops i (op ∷ ops) s c fit escape h u =
      let steps = steps_of m i op in
      let one = all_steps m' (volume_len m'.entries) image protect free lies steps s c (op_meets m i op fit.0) escape.0 h u in
      let rest = all_ops (suc i) ops (plain (plain_step m) steps s) (plain act (acts_of m i op) c) fit.1 escape.1 one.stands one.under in
      record {
        replies_are =
            ap (λ reply. reply ∷ replies_from m (suc i) ops (plain act (acts_of m i op) c)) (reply_same false op _ _ one.same)
            ∙ ap (λ replies. reply_of false op (plain_tells (plain_step m) (plain_answer m) steps s) ∷ replies) rest.replies_are;
        is_under = rest.is_under;
      }

quiet_run : (m' : Setting) (ops : List Op) (opening : State) → let m = quiet m' m'.mode.dix m'.mode.dif m'.ty in IsCalmRun m ops opening → Says m ops opening
quiet_run m' ops opening run =
    let m = quiet m' m'.mode.dix m'.mode.dif m'.ty in
    let n = volume_len m'.entries in
    let all = all_ops m' opening.blocks run.calm.protect run.calm.mask run.lies 1 ops (opened m opening) opening run.fit run.no_escape
    (record {
      size = map_length m n opening.blocks run.lies 0 n;
      all = proper_opened m n opening.blocks run.lies run.clean run.calm.mask 0 n (omega arith);
      pages = below 256 opening.bytes run.pages;
    })
    (record { bytes = refl; blocks = sym (under_opened m n opening.blocks run.lies run.clean run.calm.mask 0 n (omega arith)) }) in
    record { replies = all.replies_are; under = all.is_under }

-- a setting without faults is its own form without them
pub silent_form : (m : Setting) → IsCalm m → m ≡ quiet m m.mode.dix m.mode.dif m.ty
silent_form m c = λ i. record m { site = record m.site { faults = c.faults i; device = c.device i }; fails = λ op. c.fails op i }

pub is_plain : (m : Setting) (ops : List Op) (opening : State) → IsCalmRun m ops opening → Says m ops opening
is_plain m ops opening run =
    let e = silent_form m run.calm in
    subst (λ x. Says x ops opening) (sym e) (quiet_run m ops opening (subst (λ x. IsCalmRun x ops opening) e run))
