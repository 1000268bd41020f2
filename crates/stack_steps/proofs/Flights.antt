-- The commands in flight, when one comes and when one goes.
use Rattle.std.proofs.Common.{◌≡◌, ◌<◌, ◌≤◌, ℕ, zero, suc, ◌+◌, ◌-◌, false, List, [], ◌∷◌, ◌++◌, length, take, drop, get_or, set, refl, sym, ap, ◌∙◌, arith, length-append, length-drop}
use Rattle.std.specs.Prelude.{◌^◌}
use Rattle.std.specs.List.{remove}
use Rattle.std.proofs.lemmas.List.{length-take, take_all, drop-take, take-take, drop-drop, take-append-le}
use Rattle.stack_laws.specs.View.{Command, no_command}
use Rattle.merge_queue.specs.Groups.{without}
use Rattle.merge_queue.proofs.Lists.{without-remove}
use Rattle.stack_laws.proofs.Rests.{drop_within}
use Rattle.bio_core.specs.declared.bio.Bio.{Bio}
use Rattle.bio_core.specs.declared.fate.Fate.{Fate}
use Rattle.stack_steps.specs.declared.flight.Flight.{Flight}
use Rattle.stack_steps.specs.Flights.{Flights, AreFlights, Begin, earlier, shown, bios_of, fates_of, bios_in_flight, fates_in_flight, cut_out}

pub bios-more : (es : List Flight) (i : ℕ) (d : Flight) → i < length es → bios_of (take (i + 1) es) ≡ bios_of (take i es) + (get_or es i d).bios
bios-more [] i d h = absurd (omega arith)
bios-more (e ∷ es) zero d h = omega arith
bios-more (e ∷ es) (suc i) d h = let k = bios-more es i d (omega arith) in let a : suc i + 1 ≡ suc (i + 1) = omega arith in rw a (omega arith)

pub fates-more : (es : List Flight) (i : ℕ) (d : Flight) → i < length es → fates_of (take (i + 1) es) ≡ fates_of (take i es) + (get_or es i d).blocks
fates-more [] i d h = absurd (omega arith)
fates-more (e ∷ es) zero d h = omega arith
fates-more (e ∷ es) (suc i) d h = let k = fates-more es i d (omega arith) in let a : suc i + 1 ≡ suc (i + 1) = omega arith in rw a (omega arith)

pub bios-front : (es : List Flight) (i : ℕ) → bios_of (take i es) ≤ bios_of es
bios-front [] zero = omega arith
bios-front [] (suc i) = omega arith
bios-front (e ∷ es) zero = omega arith
bios-front (e ∷ es) (suc i) = let k = bios-front es i in omega arith

pub fates-front : (es : List Flight) (i : ℕ) → fates_of (take i es) ≤ fates_of es
fates-front [] zero = omega arith
fates-front [] (suc i) = omega arith
fates-front (e ∷ es) zero = omega arith
fates-front (e ∷ es) (suc i) = let k = fates-front es i in omega arith

bios-without : (es : List Flight) (i : ℕ) (d : Flight) → i < length es → bios_of (without i es) + (get_or es i d).bios ≡ bios_of es
bios-without [] i d h = absurd (omega arith)
bios-without (e ∷ es) zero d h = omega arith
bios-without (e ∷ es) (suc i) d h = let k = bios-without es i d (omega arith) in omega arith

fates-without : (es : List Flight) (i : ℕ) (d : Flight) → i < length es → fates_of (without i es) + (get_or es i d).blocks ≡ fates_of es
fates-without [] i d h = absurd (omega arith)
fates-without (e ∷ es) zero d h = omega arith
fates-without (e ∷ es) (suc i) d h = let k = fates-without es i d (omega arith) in omega arith

length-without : {A : Type 0} (i : ℕ) (xs : List A) → i < length xs → length (without i xs) + 1 ≡ length xs
length-without i [] h = absurd (omega arith)
length-without zero (x ∷ xs) h = omega arith
length-without (suc i) (x ∷ xs) h = let k = length-without i xs (omega arith) in omega arith

length-cut : {A : Type 0} (at n : ℕ) (xs : List A) → at + n ≤ length xs → length (cut_out at n xs) + n ≡ length xs
length-cut at n xs h =
    let a = length-append (take at xs) (drop (at + n) xs) in
    let b = length-take at xs in
    let c = length-drop (at + n) xs in
    omega arith

pub bios-place : (es : List Flight) (i : ℕ) (d : Flight) → i < length es → bios_of (take i es) + (get_or es i d).bios ≤ bios_of es
bios-place es i d h = let a = bios-more es i d h in let b = bios-front es (i + 1) in omega arith

pub fates-place : (es : List Flight) (i : ℕ) (d : Flight) → i < length es → fates_of (take i es) + (get_or es i d).blocks ≤ fates_of es
fates-place es i d h = let a = fates-more es i d h in let b = fates-front es (i + 1) in omega arith

cut-take : {A : Type 0} (k at n : ℕ) (xs : List A) → k ≤ length xs → take k (cut_out (k + at) n xs) ≡ take k xs
cut-take k at n xs h =
    let l = length-take (k + at) xs in
    take-append-le k (take (k + at) xs) (drop (k + at + n) xs) (omega arith) ∙ take-take k (k + at) xs (omega arith)

cut-drop : {A : Type 0} (k at n : ℕ) (xs : List A) → k ≤ length xs → drop k (cut_out (k + at) n xs) ≡ cut_out at n (drop k xs)
cut-drop k at n xs h =
    let l = length-take (k + at) xs in
    let e : k + at + n ≡ k + (at + n) = omega arith in
    drop_within k (take (k + at) xs) (drop (k + at + n) xs) (omega arith)
    ∙ ap (λ z. z ++ drop (k + at + n) xs) (drop-take k at xs)
    ∙ ap (λ z. take at (drop k xs) ++ drop z xs) e
    ∙ ap (λ z. take at (drop k xs) ++ z) (sym (drop-drop (at + n) k xs))

remove-shown : (es : List Flight) (i : ℕ) (d : Flight) (bs : List Bio) (fs : List Fate) → i < length es → bios_of es ≤ length bs → fates_of es ≤ length fs →
    shown (without i es) (cut_out (bios_of (take i es)) (get_or es i d).bios bs) (cut_out (fates_of (take i es)) (get_or es i d).blocks fs) ≡ without i (shown es bs fs)
remove-shown [] i d bs fs h a b = absurd (omega arith)
remove-shown (e ∷ es) zero d bs fs h a b =
    let x : 0 + e.bios ≡ e.bios = omega arith in
    let y : 0 + e.blocks ≡ e.blocks = omega arith in
    rw (x, y) refl
remove-shown (e ∷ es) (suc i) d bs fs h a b =
    let r = remove-shown es i d (drop e.bios bs) (drop e.blocks fs) (omega arith) (let l = length-drop e.bios bs in omega arith) (let l = length-drop e.blocks fs in omega arith) in
    let x = cut-take e.bios (bios_of (take i es)) (get_or es i d).bios bs (omega arith) in
    let y = cut-take e.blocks (fates_of (take i es)) (get_or es i d).blocks fs (omega arith) in
    let u = cut-drop e.bios (bios_of (take i es)) (get_or es i d).bios bs (omega arith) in
    let v = cut-drop e.blocks (fates_of (take i es)) (get_or es i d).blocks fs (omega arith) in
    rw (x, y, u, v) (ap (λ z. record { dev = e.dev; bios = take e.bios bs; fates = take e.blocks fs; completed = false } ∷ z) r)

get-shown : (es : List Flight) (i : ℕ) (d : Flight) (bs : List Bio) (fs : List Fate) → i < length es →
    get_or (shown es bs fs) i no_command ≡ record { dev = (get_or es i d).dev; bios = take (get_or es i d).bios (drop (bios_of (take i es)) bs); fates = take (get_or es i d).blocks (drop (fates_of (take i es)) fs); completed = false }
get-shown [] i d bs fs h = absurd (omega arith)
get-shown (e ∷ es) zero d bs fs h = refl
get-shown (e ∷ es) (suc i) d bs fs h =
    let x = drop-drop (bios_of (take i es)) e.bios bs in
    let y = drop-drop (fates_of (take i es)) e.blocks fs in
    get-shown es i d (drop e.bios bs) (drop e.blocks fs) (omega arith)
    ∙ ap (λ (z : List Bio). record { dev = (get_or es i d).dev; bios = take (get_or es i d).bios z; fates = take (get_or es i d).blocks (drop (fates_of (take i es)) (drop e.blocks fs)); completed = false }) x
    ∙ ap (λ (z : List Fate). record { dev = (get_or es i d).dev; bios = take (get_or es i d).bios (drop (e.bios + bios_of (take i es)) bs); fates = take (get_or es i d).blocks z; completed = false }) y

push-shown : (es : List Flight) (e : Flight) (bs gs : List Bio) (fs hs : List Fate) → bios_of es ≡ length bs → fates_of es ≡ length fs → e.bios ≡ length gs → e.blocks ≡ length hs →
    shown (es ++ e ∷ []) (bs ++ gs) (fs ++ hs) ≡ shown es bs fs ++ record { dev = e.dev; bios = gs; fates = hs; completed = false } ∷ []
push-shown [] e [] gs [] hs a b c d =
    let x = take_all e.bios gs (omega arith) in
    let y = take_all e.blocks hs (omega arith) in
    rw (x, y) refl
push-shown [] e (b ∷ bs) gs fs hs a a' c d = absurd (omega arith)
push-shown [] e [] gs (f ∷ fs) hs a a' c d = absurd (omega arith)
push-shown (x ∷ es) e bs gs fs hs a b c d =
    let r = push-shown es e (drop x.bios bs) gs (drop x.blocks fs) hs (let l = length-drop x.bios bs in omega arith) (let l = length-drop x.blocks fs in omega arith) c d in
    let y = take-append-le x.bios bs gs (omega arith) in
    let z = take-append-le x.blocks fs hs (omega arith) in
    let u = drop_within x.bios bs gs (omega arith) in
    let v = drop_within x.blocks fs hs (omega arith) in
    rw (y, z, u, v) (ap (λ w. record { dev = x.dev; bios = take x.bios bs; fates = take x.blocks fs; completed = false } ∷ w) r)

bios-shown : (es : List Flight) (bs : List Bio) (fs : List Fate) → bios_of es ≤ length bs → bios_in_flight (shown es bs fs) ≡ bios_of es
bios-shown [] bs fs h = refl
bios-shown (e ∷ es) bs fs h =
    let l = length-take e.bios bs in
    let r = bios-shown es (drop e.bios bs) (drop e.blocks fs) (let k = length-drop e.bios bs in omega arith) in
    omega arith

fates-shown : (es : List Flight) (bs : List Bio) (fs : List Fate) → fates_of es ≤ length fs → fates_in_flight (shown es bs fs) ≡ fates_of es
fates-shown [] bs fs h = refl
fates-shown (e ∷ es) bs fs h =
    let l = length-take e.blocks fs in
    let r = fates-shown es (drop e.bios bs) (drop e.blocks fs) (let k = length-drop e.blocks fs in omega arith) in
    omega arith

length-shown : (es : List Flight) (bs : List Bio) (fs : List Fate) → length (shown es bs fs) ≡ length es
length-shown [] bs fs = refl
length-shown (e ∷ es) bs fs = let r = length-shown es (drop e.bios bs) (drop e.blocks fs) in omega arith

bios_of-append : (es : List Flight) (e : Flight) → bios_of (es ++ e ∷ []) ≡ bios_of es + e.bios
bios_of-append [] e = omega arith
bios_of-append (x ∷ es) e = let r = bios_of-append es e in omega arith

fates_of-append : (es : List Flight) (e : Flight) → fates_of (es ++ e ∷ []) ≡ fates_of es + e.blocks
fates_of-append [] e = omega arith
fates_of-append (x ∷ es) e = let r = fates_of-append es e in omega arith

begin-at : (es : List Flight) (bio fate i : ℕ) (d : Flight) → Begin bio fate es → i < length es →
    ((get_or es i d).first_bio ≡ bio + bios_of (take i es)) × ((get_or es i d).first_fate ≡ fate + fates_of (take i es))
begin-at [] bio fate i d b h = absurd (omega arith)
begin-at (e ∷ es) bio fate zero d b h = (omega (arith, b.0), omega (arith, b.1.0))
begin-at (e ∷ es) bio fate (suc i) d b h = let r = begin-at es (bio + e.bios) (fate + e.blocks) i d b.1.1 (omega arith) in (omega (arith, r.0), omega (arith, r.1))

begin-same : (es : List Flight) (bio fate bio' fate' : ℕ) → bio ≡ bio' → fate ≡ fate' → Begin bio fate es → Begin bio' fate' es
begin-same es bio fate bio' fate' x y b = rw (sym x, sym y) b

begin-earlier : (es : List Flight) (bio fate n m : ℕ) → Begin (bio + n) (fate + m) es → Begin bio fate (earlier 0 (length es) n m es)
begin-earlier [] bio fate n m b = b
begin-earlier (e ∷ es) bio fate n m b =
    (omega (arith, b.0), (omega (arith, b.1.0), begin-earlier es (bio + e.bios) (fate + e.blocks) n m (begin-same es _ _ _ _ (omega arith) (omega arith) b.1.1)))

begin-without : (es : List Flight) (bio fate i : ℕ) (d : Flight) → Begin bio fate es → i < length es →
    Begin bio fate (earlier i (length (without i es)) (get_or es i d).bios (get_or es i d).blocks (without i es))
begin-without [] bio fate i d b h = absurd (omega arith)
begin-without (e ∷ es) bio fate zero d b h = begin-earlier es bio fate e.bios e.blocks b.1.1
begin-without (e ∷ es) bio fate (suc i) d b h = (b.0, (b.1.0, begin-without es (bio + e.bios) (fate + e.blocks) i d b.1.1 (omega arith)))

begin-append : (es : List Flight) (bio fate : ℕ) (x : Flight) → Begin bio fate es → x.first_bio ≡ bio + bios_of es → x.first_fate ≡ fate + fates_of es → Begin bio fate (es ++ x ∷ [])
begin-append [] bio fate x b u v = (omega (arith, u), (omega (arith, v), b))
begin-append (e ∷ es) bio fate x b u v = (b.0, (b.1.0, begin-append es (bio + e.bios) (fate + e.blocks) x b.1.1 (omega arith) (omega arith)))

pub earlier-none : (es : List Flight) (at n m : ℕ) → earlier at at n m es ≡ es
earlier-none [] at n m = refl
earlier-none (e ∷ es) zero n m = refl
earlier-none (e ∷ es) (suc at) n m = ap (λ z. e ∷ z) (earlier-none es at n m)

length-earlier : (es : List Flight) (from to n m : ℕ) → length (earlier from to n m es) ≡ length es
length-earlier [] from to n m = refl
length-earlier (e ∷ es) from zero n m = refl
length-earlier (e ∷ es) zero (suc to) n m = let r = length-earlier es zero to n m in omega arith
length-earlier (e ∷ es) (suc from) (suc to) n m = let r = length-earlier es from to n m in omega arith

-- one more begins earlier
pub earlier-more : (es : List Flight) (from k n m : ℕ) (x : Flight) → from ≤ k → k < length es → x ≡ get_or (earlier from k n m es) k x →
    set (earlier from k n m es) k (record { dev = x.dev; bios = x.bios; blocks = x.blocks; first_bio = x.first_bio - n; first_fate = x.first_fate - m }) ≡ earlier from (k + 1) n m es
earlier-more [] from k n m x f h e = absurd (omega arith)
earlier-more (y ∷ es) zero zero n m x f h e = ap (λ (z : Flight). record { dev = z.dev; bios = z.bios; blocks = z.blocks; first_bio = z.first_bio - n; first_fate = z.first_fate - m } ∷ es) e
    ∙ ap (λ z. record { dev = y.dev; bios = y.bios; blocks = y.blocks; first_bio = y.first_bio - n; first_fate = y.first_fate - m } ∷ z) (sym (earlier-none es 0 n m))
earlier-more (y ∷ es) (suc from) zero n m x f h e = absurd (omega arith)
earlier-more (y ∷ es) zero (suc k) n m x f h e =
    let a : suc k + 1 ≡ suc (k + 1) = omega arith in
    rw a (ap (λ z. record { dev = y.dev; bios = y.bios; blocks = y.blocks; first_bio = y.first_bio - n; first_fate = y.first_fate - m } ∷ z) (earlier-more es zero k n m x (omega arith) (omega arith) e))
earlier-more (y ∷ es) (suc from) (suc k) n m x f h e =
    let a : suc k + 1 ≡ suc (k + 1) = omega arith in
    rw a (ap (λ z. y ∷ z) (earlier-more es from k n m x (omega arith) (omega arith) e))

shown-earlier : (es : List Flight) (from to n m : ℕ) (bs : List Bio) (fs : List Fate) → shown (earlier from to n m es) bs fs ≡ shown es bs fs
shown-earlier [] from to n m bs fs = refl
shown-earlier (e ∷ es) from zero n m bs fs = refl
shown-earlier (e ∷ es) zero (suc to) n m bs fs =
    ap (λ z. record { dev = e.dev; bios = take e.bios bs; fates = take e.blocks fs; completed = false } ∷ z) (shown-earlier es zero to n m (drop e.bios bs) (drop e.blocks fs))
shown-earlier (e ∷ es) (suc from) (suc to) n m bs fs =
    ap (λ z. record { dev = e.dev; bios = take e.bios bs; fates = take e.blocks fs; completed = false } ∷ z) (shown-earlier es from to n m (drop e.bios bs) (drop e.blocks fs))

bios-earlier : (es : List Flight) (from to n m : ℕ) → bios_of (earlier from to n m es) ≡ bios_of es
bios-earlier [] from to n m = refl
bios-earlier (e ∷ es) from zero n m = refl
bios-earlier (e ∷ es) zero (suc to) n m = ap (λ z. e.bios + z) (bios-earlier es zero to n m)
bios-earlier (e ∷ es) (suc from) (suc to) n m = ap (λ z. e.bios + z) (bios-earlier es from to n m)

fates-earlier : (es : List Flight) (from to n m : ℕ) → fates_of (earlier from to n m es) ≡ fates_of es
fates-earlier [] from to n m = refl
fates-earlier (e ∷ es) from zero n m = refl
fates-earlier (e ∷ es) zero (suc to) n m = ap (λ z. e.blocks + z) (fates-earlier es zero to n m)
fates-earlier (e ∷ es) (suc from) (suc to) n m = ap (λ z. e.blocks + z) (fates-earlier es from to n m)

-- what is seen of the sizes
pub record Sizes (room : ℕ) (es : List Flight) (bs : List Bio) (fs : List Fate) (f : Flights) : Type 0 where
  pub number : length es ≡ length f.commands
  pub bios : length bs ≡ bios_in_flight f.commands
  pub fates : length fs ≡ fates_in_flight f.commands
  pub space : room ≡ f.room
  pub small : room < 2 ^ 32
  pub counted : bios_of es ≡ length bs
  pub numbered : fates_of es ≡ length fs

pub sizes : (room : ℕ) (es : List Flight) (bs : List Bio) (fs : List Fate) (f : Flights) → AreFlights room es bs fs → record { commands = shown es bs fs; room = room } ≡ f → Sizes room es bs fs f
sizes room es bs fs f a v =
    let c : shown es bs fs ≡ f.commands = ap (λ (w : Flights). w.commands) v in
    let x = a.bios in
    let y = a.fates in
    record {
      number = sym (length-shown es bs fs) ∙ ap length c;
      bios = sym x ∙ sym (bios-shown es bs fs (omega arith)) ∙ ap bios_in_flight c;
      fates = sym y ∙ sym (fates-shown es bs fs (omega arith)) ∙ ap fates_in_flight c;
      space = ap (λ (w : Flights). w.room) v;
      small = a.small;
      counted = x;
      numbered = y;
    }

-- where command i stands
pub record Stands (es : List Flight) (bs : List Bio) (fs : List Fate) (f : Flights) (i : ℕ) (x : Flight) : Type 0 where
  pub bios : x.first_bio + x.bios ≤ length bs
  pub fates : x.first_fate + x.blocks ≤ length fs
  pub command : get_or f.commands i no_command ≡ record { dev = x.dev; bios = take x.bios (drop x.first_bio bs); fates = take x.blocks (drop x.first_fate fs); completed = false }
  pub bios_length : length (get_or f.commands i no_command).bios ≡ x.bios
  pub fates_length : length (get_or f.commands i no_command).fates ≡ x.blocks
  pub first_bio : x.first_bio ≡ bios_of (take i es)
  pub first_fate : x.first_fate ≡ fates_of (take i es)

pub stands : (room : ℕ) (es : List Flight) (bs : List Bio) (fs : List Fate) (f : Flights) (i : ℕ) (x : Flight) → AreFlights room es bs fs → record { commands = shown es bs fs; room = room } ≡ f →
    i < length es → x ≡ get_or es i x → Stands es bs fs f i x
stands room es bs fs f i x a v h e =
    let c : shown es bs fs ≡ f.commands = ap (λ (w : Flights). w.commands) v in
    let p = bios-place es i x h in
    let q = fates-place es i x h in
    let r = begin-at es 0 0 i x a.begin h in
    let xb = ap (λ (z : Flight). z.bios) e in
    let xf = ap (λ (z : Flight). z.blocks) e in
    let eb = ap (λ (z : Flight). z.first_bio) e in
    let ef = ap (λ (z : Flight). z.first_fate) e in
    let u : x.first_bio ≡ bios_of (take i es) = omega (arith, eb, r.0) in
    let w : x.first_fate ≡ fates_of (take i es) = omega (arith, ef, r.1) in
    let g : get_or (shown es bs fs) i no_command ≡ record { dev = x.dev; bios = take x.bios (drop x.first_bio bs); fates = take x.blocks (drop x.first_fate fs); completed = false } =
    get-shown es i x bs fs h
    ∙ ap (λ (z : Flight). record { dev = z.dev; bios = take z.bios (drop (bios_of (take i es)) bs); fates = take z.blocks (drop (fates_of (take i es)) fs); completed = false }) (sym e)
    ∙ ap (λ z. record { dev = x.dev; bios = take x.bios (drop z bs); fates = take x.blocks (drop (fates_of (take i es)) fs); completed = false }) (sym u)
    ∙ ap (λ z. record { dev = x.dev; bios = take x.bios (drop x.first_bio bs); fates = take x.blocks (drop z fs); completed = false }) (sym w) in
    let k : get_or f.commands i no_command ≡ record { dev = x.dev; bios = take x.bios (drop x.first_bio bs); fates = take x.blocks (drop x.first_fate fs); completed = false } = ap (λ z. get_or z i no_command) (sym c) ∙ g in
    let y = a.bios in
    let z = a.fates in
    record {
      bios = omega arith;
      fates = omega arith;
      command = k;
      bios_length = ap (λ (z : Command). length z.bios) k ∙ (let l = length-take x.bios (drop x.first_bio bs) in let m = length-drop x.first_bio bs in omega arith);
      fates_length = ap (λ (z : Command). length z.fates) k ∙ (let l = length-take x.blocks (drop x.first_fate fs) in let m = length-drop x.first_fate fs in omega arith);
      first_bio = u;
      first_fate = w;
    }

pub record Took (room : ℕ) (es' : List Flight) (bs' : List Bio) (fs' : List Fate) (f : Flights) (i : ℕ) : Type 0 where
  pub flights : AreFlights room es' bs' fs'
  pub commands : shown es' bs' fs' ≡ without i f.commands

pub take-flight : (room : ℕ) (es es₁ es' : List Flight) (bs bs' : List Bio) (fs fs' : List Fate) (f : Flights) (i : ℕ) (x : Flight) →
    AreFlights room es bs fs → record { commands = shown es bs fs; room = room } ≡ f → i < length es → x ≡ get_or es i x → es₁ ≡ remove es i →
    es' ≡ earlier i (length es₁) x.bios x.blocks es₁ → bs' ≡ cut_out x.first_bio x.bios bs → fs' ≡ cut_out x.first_fate x.blocks fs → Took room es' bs' fs' f i
take-flight room es es₁ es' bs bs' fs fs' f i x a v h e u u' w y =
    let k : shown es bs fs ≡ f.commands = ap (λ (w : Flights). w.commands) v in
    let s = stands room es bs fs f i x a v h e in
    let p = bios-place es i x h in
    let q = fates-place es i x h in
    let ae = a.bios in
    let af = a.fates in
    let few = a.few in
    let fb = a.few_bios in
    let ff = a.few_fates in
    let n : ℕ = (get_or es i x).bios in
    let m : ℕ = (get_or es i x).blocks in
    let u₁ : es₁ ≡ without i es = u ∙ sym (without-remove es i h) in
    let u₂ : es' ≡ earlier i (length (without i es)) n m (without i es) =
    u' ∙ ap (λ z. earlier i (length z) x.bios x.blocks z) u₁ ∙ ap (λ (z : Flight). earlier i (length (without i es)) z.bios z.blocks (without i es)) e in
    let w₁ : bs' ≡ cut_out (bios_of (take i es)) n bs = w ∙ ap (λ z. cut_out z x.bios bs) s.first_bio ∙ ap (λ (z : Flight). cut_out (bios_of (take i es)) z.bios bs) e in
    let y₁ : fs' ≡ cut_out (fates_of (take i es)) m fs = y ∙ ap (λ z. cut_out z x.blocks fs) s.first_fate ∙ ap (λ (z : Flight). cut_out (fates_of (take i es)) z.blocks fs) e in
    let lb = length-cut (bios_of (take i es)) n bs (omega arith) in
    let lf = length-cut (fates_of (take i es)) m fs (omega arith) in
    let le = length-without i es h in
    let be = bios-without es i x h in
    let fe = fates-without es i x h in
    let ll = length-earlier (without i es) i (length (without i es)) n m in
    let lbe = bios-earlier (without i es) i (length (without i es)) n m in
    let lfe = fates-earlier (without i es) i (length (without i es)) n m in
    rw (u₂, w₁, y₁) (record {
      flights = record { bios = omega arith; fates = omega arith; begin = begin-without es 0 0 i x a.begin h; few = omega arith; few_bios = omega arith; few_fates = omega arith; small = a.small };
      commands = shown-earlier (without i es) i (length (without i es)) n m (cut_out (bios_of (take i es)) n bs) (cut_out (fates_of (take i es)) m fs)
          ∙ remove-shown es i x bs fs h (omega arith) (omega arith) ∙ ap (without i) k;
    })

pub record Pushed (room : ℕ) (es' : List Flight) (bs' : List Bio) (fs' : List Fate) (f : Flights) (c : Command) : Type 0 where
  pub flights : AreFlights room es' bs' fs'
  pub commands : shown es' bs' fs' ≡ f.commands ++ c ∷ []

pub push-flight : (room : ℕ) (es es' : List Flight) (bs bs' gs : List Bio) (fs fs' hs : List Fate) (f : Flights) (x : Flight) →
    AreFlights room es bs fs → record { commands = shown es bs fs; room = room } ≡ f → length f.commands < f.room → bios_in_flight f.commands + length gs ≤ f.room → fates_in_flight f.commands + length hs ≤ f.room →
    x.bios ≡ length gs → x.blocks ≡ length hs → x.first_bio ≡ length bs → x.first_fate ≡ length fs → es' ≡ es ++ x ∷ [] → bs' ≡ bs ++ gs → fs' ≡ fs ++ hs → Pushed room es' bs' fs' f (record { dev = x.dev; bios = gs; fates = hs; completed = false })
push-flight room es es' bs bs' gs fs fs' hs f x a v h i j xb xf b₁ f₁ u w y =
    let s = sizes room es bs fs f a v in
    let k : shown es bs fs ≡ f.commands = ap (λ (w : Flights). w.commands) v in
    let ae = a.bios in
    let af = a.fates in
    let be = bios_of-append es x in
    let fe = fates_of-append es x in
    let le = length-append es (x ∷ []) in
    let lb = length-append bs gs in
    let lf = length-append fs hs in
    rw (u, w, y) (record {
      flights = record { bios = omega arith; fates = omega arith; begin = begin-append es 0 0 x a.begin (omega arith) (omega arith); few = omega (arith, s); few_bios = omega (arith, s); few_fates = omega (arith, s); small = a.small };
      commands = push-shown es x bs gs fs hs ae af xb xf ∙ ap (λ z. z ++ record { dev = x.dev; bios = gs; fates = hs; completed = false } ∷ []) k;
    })
