-- The puts of a write on a leg: its data stand in its pages, from the first byte on.
use Rattle.std.proofs.Common.{◌≡◌, ◌<◌, ◌≤◌, ℕ, zero, suc, ◌+◌, ◌*◌, List, [], ◌∷◌, ◌++◌, length, replicate, take, drop, refl, sym, ap, ◌∙◌, arith, append_assoc, length-append}
use Rattle.std.proofs.lemmas.List.{append-nil, drop-drop, length-drop, length-take, take-append-drop, take_all}
use Rattle.page_pool.specs.Cells.{scatter}
use Rattle.range_gate.specs.Cells.{cells_of, in_turn}
use Rattle.range_gate.proofs.Turns.{run_cells}
use Rattle.stack_ops.specs.declared.op.Op.{Op}
use Rattle.stack_ops.specs.declared.reply.Reply.TheVariants.{Silent}
use Rattle.stack_ops.specs.Footprints.{put_seg}
use Rattle.block_path.specs.Acts.{State}
use Rattle.walk_laws.specs.ScriptWalk.{replies_from, walk_from}
use Rattle.walk_laws.specs.Settings.{Setting}
use Rattle.mirror_volume.specs.Inner.{puts}
use Rattle.mirror_volume.proofs.Turns.{scattered}

pub puts_length : (page pages : ℕ) (bytes : List ℕ) → length (puts page pages bytes) ≡ pages
puts_length page zero bytes = refl
puts_length page (suc q) bytes = ap suc (puts_length (suc page) q (drop 4096 bytes))

put_cells : (page : ℕ) (chunk : List ℕ) → cells_of (put_seg page 0 chunk ∷ []) ≡ in_turn (4096 * page) (length chunk)
put_cells page chunk =
    let e : 4096 * page + 0 ≡ 4096 * page = omega arith in
    simp (append-nil, run_cells page 0 (length chunk)) (ap (λ v. in_turn v (length chunk)) e)

-- one page
put_one : (page : ℕ) (chunk pre old : List ℕ) → length pre ≡ 4096 * page → length chunk ≤ length old → scatter (cells_of (put_seg page 0 chunk ∷ [])) chunk (pre ++ old) ≡ (pre ++ chunk) ++ drop (length chunk) old
put_one page chunk pre old e l =
    ap (λ at. scatter at chunk (pre ++ old)) (put_cells page chunk ∙ ap (λ v. in_turn v (length chunk)) (sym e))
    ∙ scattered pre chunk old (length chunk) (omega arith) l
    ∙ ap (λ c. pre ++ (c ++ drop (length chunk) old)) (take_all (length chunk) chunk (omega arith))
    ∙ sym (append_assoc pre chunk (drop (length chunk) old))

-- and those behind it
put_rest : (bytes pre old : List ℕ) → (pre ++ take 4096 bytes) ++ (drop 4096 bytes ++ drop (length (drop 4096 bytes)) (drop (length (take 4096 bytes)) old)) ≡ pre ++ (bytes ++ drop (length bytes) old)
put_rest bytes pre old =
    let chunk = take 4096 bytes in
    let rest = drop 4096 bytes in
    let whole : chunk ++ rest ≡ bytes = take-append-drop 4096 bytes in
    let a = length-append chunk rest in
    let b : length (chunk ++ rest) ≡ length bytes = ap length whole in
    let long : length chunk + length rest ≡ length bytes = omega (arith, a, b) in
    append_assoc pre chunk (rest ++ drop (length rest) (drop (length chunk) old))
    ∙ ap (λ t. pre ++ t) (sym (append_assoc chunk rest (drop (length rest) (drop (length chunk) old))))
    ∙ ap (λ t. pre ++ (t ++ drop (length rest) (drop (length chunk) old))) whole
    ∙ ap (λ t. pre ++ (bytes ++ t)) (drop-drop (length rest) (length chunk) old ∙ ap (λ n. drop n old) long)

pub puts_walk : (m : Setting) (i page pages : ℕ) (bytes pre old : List ℕ) (s : State) → s.bytes ≡ pre ++ old → (0 < pages → length pre ≡ 4096 * page) → length bytes ≤ length old → length bytes ≤ 4096 * pages →
    4096 * pages < length bytes + 4096 → walk_from m i (puts page pages bytes) s ≡ record s { bytes = pre ++ (bytes ++ drop (length bytes) old) }
puts_walk m i page zero [] pre old s e b l f g = ap (λ t. record s { bytes = t }) e
puts_walk m i page zero (x ∷ bytes) pre old s e b l f g = absurd (omega arith)
puts_walk m i page (suc q) bytes pre old s e b l f g =
    let chunk = take 4096 bytes in
    let rest = drop 4096 bytes in
    let c = length-take 4096 bytes in
    let d = length-drop 4096 bytes in
    let k = length-append pre chunk in
    let o = length-drop (length chunk) old in
    let p : length pre ≡ 4096 * page = b (omega arith) in
    let here : scatter (cells_of (put_seg page 0 chunk ∷ [])) chunk s.bytes ≡ (pre ++ chunk) ++ drop (length chunk) old
    = ap (scatter (cells_of (put_seg page 0 chunk ∷ [])) chunk) e ∙ put_one page chunk pre old p (omega (arith, c)) in
    puts_walk m (suc i) (suc page) q rest (pre ++ chunk) (drop (length chunk) old) (record s { bytes = scatter (cells_of (put_seg page 0 chunk ∷ [])) chunk s.bytes }) here
    (λ n. omega (arith, c, k, p)) (omega (arith, c, d, o)) (omega (arith, d)) (omega (arith, d))
    ∙ ap (λ t. record s { bytes = t }) (put_rest bytes pre old)

-- ---- and what comes behind them

pub walk_puts : (m : Setting) (i page pages : ℕ) (bytes : List ℕ) (ops : List Op) (s : State) → walk_from m i (puts page pages bytes ++ ops) s ≡ walk_from m (i + pages) ops (walk_from m i (puts page pages bytes) s)
walk_puts m i page zero bytes ops s = let e : i ≡ i + 0 = omega arith in ap (λ j. walk_from m j ops s) e
walk_puts m i page (suc q) bytes ops s =
    let e : suc i + q ≡ i + suc q = omega arith in
    walk_puts m (suc i) (suc page) q (drop 4096 bytes) ops _ ∙ ap (λ j. walk_from m j ops (walk_from m i (puts page (suc q) bytes) s)) e

pub replies_puts : (m : Setting) (i page pages : ℕ) (bytes : List ℕ) (ops : List Op) (s : State) →
    replies_from m i (puts page pages bytes ++ ops) s ≡ replicate pages Silent ++ replies_from m (i + pages) ops (walk_from m i (puts page pages bytes) s)
replies_puts m i page zero bytes ops s = let e : i ≡ i + 0 = omega arith in ap (λ j. replies_from m j ops s) e
replies_puts m i page (suc q) bytes ops s =
    let e : suc i + q ≡ i + suc q = omega arith in
    ap (λ t. Silent ∷ t) (replies_puts m (suc i) (suc page) q (drop 4096 bytes) ops _ ∙ ap (λ j. replicate q Silent ++ replies_from m j ops (walk_from m i (puts page (suc q) bytes) s)) e)
