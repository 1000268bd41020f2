-- A walk over segments by pieces: where it stands, and what it has passed.
use Rattle.std.proofs.Common.{◌≡◌, ℕ, ◌+◌, ◌-◌, ◌≤◌, ◌<◌, min, List, [], ◌∷◌, ◌++◌, length, take, drop, refl, sym, ap, ◌∙◌, subst, ◌≢◌, append_assoc, take_at, arith}
use borrow.Rule.Slice.PartMut.{put_mid}
use Rattle.std.proofs.lemmas.Slice.{take-put_mid}
use Rattle.std.proofs.lemmas.List.{length-append, length-take, length-drop, map-append, take-append-drop, take-take, drop_at}
use Rattle.page_pool.specs.declared.segs.Seg.{Seg}
use Rattle.page_pool.specs.Places.{PageByte, places_of, places_in}
use Rattle.page_pool.specs.Pages.{byte_at, bytes_at, LiesIn}
use Rattle.page_pool.specs.Ahead.{BeginsAt}
use Rattle.page_pool.specs.Cuts.{past, upto}
use Rattle.page_pool.specs.Walking.{AllStandIn, InPages, Took}
use Rattle.page_pool.proofs.Cutting.{take-front, places-past, places-upto, past-past, first_part}
use Rattle.page_pool.proofs.Placing.{length-run, first_in_page, in_pages-drop, stand-front, stand-back, lies}

-- the first segment ahead is this one
pub record Begins (segs : List Seg) (first : Seg) (at : ℕ) : Type 0 where
  pub inside : at < first.len
  pub page : InPages (places_in (past at segs)) → first.off + at < 4096

begins-first : (first : Seg) (more : List Seg) (at : ℕ) → at < first.len → Begins (first ∷ more) first at
begins-first first more at h = record {
  inside = h;
  page = λ k. first_in_page first.page first.off first.len at (places_in more) h (subst (λ l. InPages l) (places-past at (first ∷ more)) k);
}

pub begins : (segs more : List Seg) (first : Seg) (at : ℕ) → BeginsAt segs at → segs ≡ first ∷ more → Begins segs first at
begins segs more first at h e =
    let k = subst (λ l. BeginsAt l at) e h in
    subst (λ l. Begins l first at) (sym e) (begins-first first more at k)

pub took : (old segs more : List Seg) (first : Seg) (at len most : ℕ) → old ≡ past at segs → segs ≡ first ∷ more → at < first.len → len ≡ min (first.len - at) most → len ≢ 0 →
    Took most old (past (at + len) segs) (record { page = first.page; off = first.off + at; len = len })
took old segs more first at len most e f h m z =
    rw (e, f) (first_part first more at len most h m z)

pub still_in_pages : (segs : List Seg) (at len : ℕ) → InPages (places_in (past at segs)) → InPages (places_in (past (at + len) segs))
still_in_pages segs at len h =
    subst (λ l. InPages l) (sym (places-past len (past at segs)) ∙ ap places_in (past-past len at segs)) (in_pages-drop len (places_in (past at segs)) h)

-- a part that was taken, by its places: they were the first ahead
pub record Passed (many : ℕ) (old new : List PageByte) (s : Seg) : Type 0 where
  pub some : 0 < s.len
  pub most : s.len ≤ many
  pub ahead : old ≡ places_of s ++ new

pub passed : (many : ℕ) (old new : List Seg) (s : Seg) → Took many old new s → Passed many (places_in old) (places_in new) s
passed many old new s h =
    let whole : take many (places_in old) ≡ places_of s ++ take (many - s.len) (places_in new) = sym (places-upto many old) ∙ (ap places_in h.first ∙ ap (λ l. places_of s ++ l) (places-upto (many - s.len) new)) in
    let front : take s.len (places_in old) ≡ places_of s =
    sym (take-take s.len many (places_in old) h.within) ∙ (ap (take s.len) whole ∙ take_at (places_of s) (take (many - s.len) (places_in new)) s.len (length-run s.page s.off s.len)) in
    let back : places_in new ≡ drop s.len (places_in old) = ap places_in h.ahead ∙ places-past s.len old in
    record {
      some = h.some;
      most = h.within;
      ahead = sym (take-append-drop s.len (places_in old)) ∙ (ap (λ l. l ++ drop s.len (places_in old)) front ∙ ap (λ l. places_of s ++ l) (sym back));
    }

-- nothing is left of what was asked for
pub no_places : (many : ℕ) (ahead : List Seg) → upto many ahead ≡ [] → take many (places_in ahead) ≡ []
no_places many ahead h = sym (places-upto many ahead) ∙ ap places_in h

-- so many bytes of a list are behind
pub record Gone (start now : List Seg) (done : ℕ) : Type 0 where
  pub same : past 0 now ≡ past done start

pub gone_none : (start : List Seg) → Gone start start 0
gone_none start = record { same = refl }

pub gone_more : (start now next : List Seg) (done : ℕ) (s : Seg) (many : ℕ) → Gone start now done → Took many now next s → Gone start next (done + s.len)
gone_more start now next done s many h k =
    let here : past (s.len + 0) now ≡ past (0 + s.len) now = ap (λ n. past n now) (let e : s.len + 0 ≡ 0 + s.len = omega arith in e) in
    record {
      same = ap (past 0) k.ahead ∙ (past-past 0 s.len now ∙ (here ∙ (sym (past-past s.len 0 now) ∙ (ap (past s.len) h.same ∙ past-past s.len done start))));
    }

pub stays : (old segs : List Seg) (at : ℕ) → old ≡ past at segs → old ≡ past 0 old
stays old segs at e = e ∙ (ap (λ n. past n segs) (let f : at ≡ at + 0 = omega arith in f) ∙ (sym (past-past 0 at segs) ∙ ap (past 0) (sym e)))

-- a part of a range

pub took-front : (many : ℕ) (old new : List PageByte) (s : Seg) → Passed many old new s → take many old ≡ places_of s ++ take (many - s.len) new
took-front many old new s h =
    let long = length-run s.page s.off s.len in
    let m = h.most in
    ap (take many) h.ahead ∙ (take-front (places_of s) new many (omega arith) ∙ ap (λ n. places_of s ++ take (many - n) new) long)

pub took-stands : (pages many : ℕ) (old new : List PageByte) (s : Seg) → Passed many old new s → AllStandIn pages (take many old) → AllStandIn pages (take (many - s.len) new)
took-stands pages many old new s h k = stand-back pages (places_of s) (take (many - s.len) new) (subst (λ l. AllStandIn pages l) (took-front many old new s h) k)

pub took-lies : (pool : List (List ℕ)) (many : ℕ) (old new : List PageByte) (s : Seg) → Passed many old new s → AllStandIn (length pool) (take many old) → LiesIn pool s
took-lies pool many old new s h k =
    lies pool s h.some (stand-front (length pool) (places_of s) (take (many - s.len) new) (subst (λ l. AllStandIn (length pool) l) (took-front many old new s h) k))

-- a walk has left these places behind, and so many of `many` are to come
pub record Walked (start behind ahead : List PageByte) (many left pages : ℕ) : Type 0 where
  pub whole : start ≡ behind ++ ahead
  pub count : length behind + left ≡ many
  pub stand : AllStandIn pages (take left ahead)

pub walked_none : (start : List PageByte) (many pages : ℕ) → AllStandIn pages (take many start) → Walked start [] start many many pages
walked_none start many pages h = record { whole = refl; count = omega arith; stand = h }

pub walked_more : (start behind ahead next : List PageByte) (many left pages : ℕ) (s : Seg) → Walked start behind ahead many left pages → Passed left ahead next s → Walked start (behind ++ places_of s) next many (left - s.len) pages
walked_more start behind ahead next many left pages s h k =
    let long = length-run s.page s.off s.len in
    let sum = length-append behind (places_of s) in
    let most = k.most in
    let count = h.count in
    record {
      whole = h.whole ∙ (ap (λ l. behind ++ l) k.ahead ∙ sym (append_assoc behind (places_of s) next));
      count = omega arith;
      stand = took-stands pages left ahead next s k h.stand;
    }

pub record Walks (start ahead behind : List PageByte) (many left : ℕ) : Type 0 where
  pub done : left ≡ 0
  pub behind_is : take many start ≡ behind
  pub ahead_is : ahead ≡ drop many start

pub walked_all : (start behind ahead : List PageByte) (many left pages : ℕ) → Walked start behind ahead many left pages → take left ahead ≡ [] → many ≤ length start → Walks start ahead behind many left
walked_all start behind ahead many left pages h e l =
    let sum = ap length h.whole in
    let parts = length-append behind ahead in
    let none = ap length e in
    let cut = length-take left ahead in
    let count = h.count in
    let n : length behind ≡ many = omega arith in
    record {
      done = omega arith;
      behind_is = ap (take many) h.whole ∙ take_at behind ahead many n;
      ahead_is = sym (ap (λ v. drop many v) h.whole ∙ drop_at behind ahead many n);
    }

-- parts copied out, one after another

pub copied : (done size : ℕ) (into part want : List ℕ) → take done into ≡ want → length part ≡ size → done + size ≤ length into →
    take (done + size) (put_mid done (done + size - done) into part) ≡ want ++ part
copied done size into part want e l h =
    take-put_mid done (done + size - done) into part (done + size) (omega arith) (omega arith) ∙ ap (λ v. v ++ part) e

pub length-copied : (done size : ℕ) (into part : List ℕ) → length part ≡ size → done + size ≤ length into → length (put_mid done (done + size - done) into part) ≡ length into
length-copied done size into part l h = simp (length-append, length-take, length-drop) (omega arith)

-- the bytes at the places behind were copied out
pub record Copies (pool : List (List ℕ)) (start ahead : List PageByte) (many done : ℕ) (copy : List ℕ) : Type 0 where
  pub behind : List PageByte
  pub walked : Walked start behind ahead many (many - done) (length pool)
  pub most : done ≤ many
  pub same : copy ≡ bytes_at pool behind

pub copies_none : (pool : List (List ℕ)) (start : List PageByte) (many : ℕ) → AllStandIn (length pool) (take many start) → Copies pool start start many 0 []
copies_none pool start many h =
    let n : many ≡ many - 0 = omega arith in
    record { behind = []; walked = subst (λ k. Walked start [] start many k (length pool)) n (walked_none start many (length pool) h); most = omega arith; same = refl }

pub copies_more : (pool : List (List ℕ)) (start ahead next : List PageByte) (many done : ℕ) (copy part more : List ℕ) (s : Seg) → Copies pool start ahead many done copy → Passed (many - done) ahead next s →
    part ≡ bytes_at pool (places_of s) → more ≡ copy ++ part → Copies pool start next many (done + s.len) more
copies_more pool start ahead next many done copy part more s h k e f =
    let most = k.most in
    let room = h.most in
    let n : many - done - s.len ≡ many - (done + s.len) = omega arith in
    record {
      behind = h.behind ++ places_of s;
      walked = subst (λ m. Walked start (h.behind ++ places_of s) next many m (length pool)) n (walked_more start h.behind ahead next many (many - done) (length pool) s h.walked k);
      most = omega arith;
      same = f ∙ (ap (λ l. l ++ part) h.same ∙ (ap (λ l. bytes_at pool h.behind ++ l) e ∙ sym (map-append (byte_at pool) h.behind (places_of s))));
    }

pub copies_all : (pool : List (List ℕ)) (start ahead : List PageByte) (many done : ℕ) (copy : List ℕ) → Copies pool start ahead many done copy → take (many - done) ahead ≡ [] → many ≤ length start →
    (copy ≡ bytes_at pool (take many start)) × (ahead ≡ drop many start) × (done ≡ many)
copies_all pool start ahead many done copy h e l =
    let all = walked_all start h.behind ahead many (many - done) (length pool) h.walked e l in
    let done_is = all.done in
    let room = h.most in
    (h.same ∙ ap (bytes_at pool) (sym all.behind_is), all.ahead_is, omega arith)
