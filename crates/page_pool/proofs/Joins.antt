-- The bytes of segments are those of their parts, one behind the other.
use Rattle.std.proofs.Common.{◌≡◌, ℕ, List, [], ◌∷◌, ◌++◌, map, refl, sym, ap, ◌∙◌}
use Rattle.std.proofs.lemmas.List.{map-append}
use Rattle.page_pool.specs.declared.segs.Seg.{Seg}
use Rattle.page_pool.specs.Cells.{flat}
use Rattle.page_pool.specs.Cuts.{cut}
use Rattle.page_pool.specs.Joining.{parts_in}
use Rattle.page_pool.specs.Pages.{AreWhole, AllLieIn, byte_at, bytes_at, bytes_in, part}
use Rattle.page_pool.specs.Places.{places_of, places_in}
use Rattle.page_pool.proofs.Cutting.{lie-past, lie-upto, places-cut}
use Rattle.page_pool.proofs.Paging.{part-is}

-- parts of a pool joined are the bytes of their segments
pub flat-parts : (pool : List (List ℕ)) (ss : List Seg) → AreWhole pool → AllLieIn pool ss → flat (map (part pool) ss) ≡ bytes_at pool (places_in ss)
flat-parts pool [] w h = refl
flat-parts pool (s ∷ ss) w h =
    ap (λ l. l ++ flat (map (part pool) ss)) (part-is pool s w h.0)
    ∙ (ap (λ l. bytes_at pool (places_of s) ++ l) (flat-parts pool ss w h.1) ∙ sym (map-append (byte_at pool) (places_of s) (places_in ss)))

pub lie-cut : (pool : List (List ℕ)) (ss : List Seg) (at len : ℕ) → AllLieIn pool ss → AllLieIn pool (cut ss at len)
lie-cut pool ss at len h = lie-upto pool len _ (lie-past pool at ss h)

pub joined-parts : (pool : List (List ℕ)) (ss : List Seg) (at len : ℕ) → AreWhole pool → AllLieIn pool ss → flat (parts_in pool ss at len) ≡ bytes_in pool ss at len
joined-parts pool ss at len w h = flat-parts pool (cut ss at len) w (lie-cut pool ss at len h) ∙ ap (bytes_at pool) (places-cut ss at len)
