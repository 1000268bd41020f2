use Rattle.std.specs.Prelude.{ℕ, ◌-◌, ◌^◌, List, [], ◌∷◌, Option, Some, None}
use Rattle.page_pool.specs.declared.segs.Seg.{Seg}
use Rattle.script_words.specs.Cuts.{Cut, cut, parts}
use Rattle.script_words.specs.Numbers.{number_within}

-- below 2 ^ 32
abbrev pub word32 : List ℕ → Option ℕ
word32 word = number_within 0 (2 ^ 32 - 1) word

abbrev pub word64 : List ℕ → Option ℕ
word64 word = number_within 0 (2 ^ 64 - 1) word

abbrev pub both : Option ℕ → Option ℕ → Option (ℕ × ℕ)
both None b = None
both (Some a) None = None
both (Some a) (Some b) = Some (a, b)

abbrev pub pair_by : (List ℕ → Option ℕ) → Option Cut → Option (ℕ × ℕ)
pair_by second None = None
pair_by second (Some c) = both (word32 c.before) (second c.after)

-- two numbers below 2 ^ 32 with a colon between them: a page and an offset
abbrev pub spot_in : List ℕ → Option (ℕ × ℕ)
spot_in word = pair_by word32 (cut 58 word)

-- a device and an address of 64 bits
abbrev pub leg_in : List ℕ → Option (ℕ × ℕ)
leg_in word = pair_by word64 (cut 58 word)

abbrev pub choice_by : List ℕ → Option Cut → Option (ℕ × ℕ)
choice_by word None = both (word32 word) (Some 0)
choice_by word (Some c) = pair_by word32 (Some c)

-- W/C, or W, whose second number is 0
abbrev pub choice_in : List ℕ → Option (ℕ × ℕ)
choice_in word = choice_by word (cut 47 word)

abbrev pub seg_with : Option ℕ → Option (ℕ × ℕ) → Option Seg
seg_with None rest = None
seg_with (Some page) None = None
seg_with (Some page) (Some rest) = Some (record { page = page; off = rest.0; len = rest.1 })

abbrev pub seg_by : Option Cut → Option Seg
seg_by None = None
seg_by (Some c) = seg_with (word32 c.before) (spot_in c.after)

-- a segment, P:O:L
abbrev pub seg_in : List ℕ → Option Seg
seg_in word = seg_by (cut 58 word)

abbrev pub with_seg : Option Seg → Option (List Seg) → Option (List Seg)
with_seg None segs = None
with_seg (Some s) None = None
with_seg (Some s) (Some segs) = Some (s ∷ segs)

abbrev pub segs_of : List (List ℕ) → Option (List Seg)
segs_of [] = Some []
segs_of (w ∷ ws) = with_seg (seg_in w) (segs_of ws)

-- segments with commas between them
abbrev pub segs_in : List ℕ → Option (List Seg)
segs_in word = segs_of (parts 44 word)
