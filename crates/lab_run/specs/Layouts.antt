use Rattle.std.specs.Prelude.{ℕ, if◌then◌else◌, List, codes, Option, Some, None}
use Rattle.std.specs.Str.{bytes_eq}
use Rattle.image_text.specs.declared.layout.Layout.{Layout}
use Rattle.image_text.specs.declared.layout.Layout.TheVariants.{Interleaved, Plain, Tuples}

-- the layout that a word names
abbrev pub layout_in : List ℕ → Option Layout
layout_in word =
    if bytes_eq word (codes "interleaved") then Some Interleaved
    else (if bytes_eq word (codes "plain") then Some Plain
    else (if bytes_eq word (codes "tuples") then Some Tuples
    else None))
