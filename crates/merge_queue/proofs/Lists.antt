-- Sums and maps over lists in which one element is put in, set or taken out.
use Rattle.std.proofs.Common.{◌≡◌, ℕ, zero, suc, ◌+◌, ◌<◌, ◌≤◌, List, [], ◌∷◌, ◌++◌, length, get_or, set, take, drop, map, refl, ap, ◌∙◌, arith}
use Rattle.std.specs.List.{insert, remove}
use Rattle.merge_queue.specs.Groups.{without}
use Rattle.merge_queue.specs.Index.{total}

-- ---- sums

pub total-append : {A : Type 0} (f : A → ℕ) (xs ys : List A) → total f (xs ++ ys) ≡ total f xs + total f ys
total-append f [] ys = omega arith
total-append f (x ∷ xs) ys = let e = total-append f xs ys in omega arith

pub total-insert : {A : Type 0} (f : A → ℕ) (xs : List A) (at : ℕ) (y : A) → total f (insert xs at y) ≡ f y + total f xs
total-insert f xs at y =
    let a = total-append f (take at xs) (y ∷ drop at xs) in
    let b = total-parts f xs at in
    omega arith
  where
    total-parts : {A : Type 0} (f : A → ℕ) (xs : List A) (at : ℕ) → total f (take at xs) + total f (drop at xs) ≡ total f xs
    total-parts f [] zero = omega arith
    total-parts f [] (suc at) = omega arith
    total-parts f (x ∷ xs) zero = omega arith
    total-parts f (x ∷ xs) (suc at) = let e = total-parts f xs at in omega arith

pub total-without : {A : Type 0} (f : A → ℕ) (xs : List A) (i : ℕ) (d : A) → i < length xs → total f (without i xs) + f (get_or xs i d) ≡ total f xs
total-without f [] i d h = absurd (omega arith)
total-without f (x ∷ xs) zero d h = omega arith
total-without f (x ∷ xs) (suc i) d h = let e = total-without f xs i d (omega arith) in omega arith

pub total-one : {A : Type 0} (f : A → ℕ) (xs : List A) (i : ℕ) (d : A) → i < length xs → f (get_or xs i d) ≤ total f xs
total-one f xs i d h = let e = total-without f xs i d h in omega arith

pub total-two : {A : Type 0} (f : A → ℕ) (xs : List A) (i j : ℕ) (d : A) → i < length xs → j < length xs → (i ≡ j → ⊥) → f (get_or xs i d) + f (get_or xs j d) ≤ total f xs
total-two f [] i j d h l n = absurd (omega arith)
total-two f (x ∷ xs) zero zero d h l n = absurd (n refl)
total-two f (x ∷ xs) zero (suc j) d h l n = let e = total-one f xs j d (omega arith) in omega arith
total-two f (x ∷ xs) (suc i) zero d h l n = let e = total-one f xs i d (omega arith) in omega arith
total-two f (x ∷ xs) (suc i) (suc j) d h l n = let e = total-two f xs i j d (omega arith) (omega arith) (λ q. n (ap suc q)) in omega arith

pub total-same : {A : Type 0} (f g : A → ℕ) (xs : List A) (d : A) → ((k : ℕ) → k < length xs → f (get_or xs k d) ≡ g (get_or xs k d)) → total f xs ≡ total g xs
total-same f g [] d h = refl
total-same f g (x ∷ xs) d h = let a = h 0 (omega arith) in let b = total-same f g xs d (λ k l. h (suc k) (omega arith)) in omega arith

-- f and g are the same at all elements but one, and that one is set
pub total-set : {A : Type 0} (f g : A → ℕ) (xs : List A) (i : ℕ) (y d : A) → i < length xs → ((k : ℕ) → k < length xs → (k ≡ i → ⊥) → f (get_or xs k d) ≡ g (get_or xs k d)) →
    total f (set xs i y) + g (get_or xs i d) ≡ total g xs + f y
total-set f g [] i y d h s = absurd (omega arith)
total-set f g (x ∷ xs) zero y d h s = let e = total-same f g xs d (λ k l. s (suc k) (omega arith) (λ q. omega arith)) in omega arith
total-set f g (x ∷ xs) (suc i) y d h s =
    let a = s 0 (omega arith) (λ q. omega arith) in
    let e = total-set f g xs i y d (omega arith) (λ k l n. s (suc k) (omega arith) (λ q. n (omega arith))) in omega arith

-- .. or goes
pub total-gone : {A : Type 0} (f g : A → ℕ) (xs : List A) (i : ℕ) (d : A) → i < length xs → ((k : ℕ) → k < length xs → (k ≡ i → ⊥) → f (get_or xs k d) ≡ g (get_or xs k d)) →
    total f (without i xs) + g (get_or xs i d) ≡ total g xs
total-gone f g [] i d h s = absurd (omega arith)
total-gone f g (x ∷ xs) zero d h s = let e = total-same f g xs d (λ k l. s (suc k) (omega arith) (λ q. omega arith)) in omega arith
total-gone f g (x ∷ xs) (suc i) d h s =
    let a = s 0 (omega arith) (λ q. omega arith) in
    let e = total-gone f g xs i d (omega arith) (λ k l n. s (suc k) (omega arith) (λ q. n (omega arith))) in omega arith

-- ---- maps

pub map-same : {A B : Type 0} (f g : A → B) (xs : List A) (d : A) → ((k : ℕ) → k < length xs → f (get_or xs k d) ≡ g (get_or xs k d)) → map f xs ≡ map g xs
map-same f g [] d h = refl
map-same f g (x ∷ xs) d h = ap (λ y. y ∷ map f xs) (h 0 (omega arith)) ∙ ap (λ ys. g x ∷ ys) (map-same f g xs d (λ k l. h (suc k) (omega arith)))

pub map-set : {A B : Type 0} (f g : A → B) (xs : List A) (i : ℕ) (y d : A) → i < length xs → ((k : ℕ) → k < length xs → (k ≡ i → ⊥) → f (get_or xs k d) ≡ g (get_or xs k d)) →
    map f (set xs i y) ≡ set (map g xs) i (f y)
map-set f g [] i y d h s = absurd (omega arith)
map-set f g (x ∷ xs) zero y d h s = ap (λ ys. f y ∷ ys) (map-same f g xs d (λ k l. s (suc k) (omega arith) (λ q. omega arith)))
map-set f g (x ∷ xs) (suc i) y d h s =
    ap (λ z. z ∷ map f (set xs i y)) (s 0 (omega arith) (λ q. omega arith)) ∙ ap (λ ys. g x ∷ ys) (map-set f g xs i y d (omega arith) (λ k l n. s (suc k) (omega arith) (λ q. n (omega arith))))

pub map-gone : {A B : Type 0} (f g : A → B) (xs : List A) (i : ℕ) (d : A) → i < length xs → ((k : ℕ) → k < length xs → (k ≡ i → ⊥) → f (get_or xs k d) ≡ g (get_or xs k d)) →
    map f (without i xs) ≡ without i (map g xs)
map-gone f g [] i d h s = absurd (omega arith)
map-gone f g (x ∷ xs) zero d h s = map-same f g xs d (λ k l. s (suc k) (omega arith) (λ q. omega arith))
map-gone f g (x ∷ xs) (suc i) d h s =
    ap (λ z. z ∷ map f (without i xs)) (s 0 (omega arith) (λ q. omega arith)) ∙ ap (λ ys. g x ∷ ys) (map-gone f g xs i d (omega arith) (λ k l n. s (suc k) (omega arith) (λ q. n (omega arith))))

pub map-without : {A B : Type 0} (f : A → B) (xs : List A) (i : ℕ) → map f (without i xs) ≡ without i (map f xs)
map-without f [] i = refl
map-without f (x ∷ xs) zero = refl
map-without f (x ∷ xs) (suc i) = ap (λ ys. f x ∷ ys) (map-without f xs i)

pub map-insert : {A B : Type 0} (f g : A → B) (xs : List A) (at : ℕ) (y d : A) → ((k : ℕ) → k < length xs → f (get_or xs k d) ≡ g (get_or xs k d)) →
    map f (insert xs at y) ≡ insert (map g xs) at (f y)
map-insert f g [] zero y d h = refl
map-insert f g [] (suc at) y d h = refl
map-insert f g (x ∷ xs) zero y d h = ap (λ ys. f y ∷ ys) (map-same f g (x ∷ xs) d h)
map-insert f g (x ∷ xs) (suc at) y d h =
    ap (λ z. z ∷ map f (insert xs at y)) (h 0 (omega arith)) ∙ ap (λ ys. g x ∷ ys) (map-insert f g xs at y d (λ k l. h (suc k) (omega arith)))

-- ---- what holds of all elements

abbrev pub AllOf : {A : Type 0} → (A → Type 0) → List A → Type 0
AllOf {A} P xs = (k : ℕ) (d : A) → k < length xs → P (get_or xs k d)

pub all-insert : {A : Type 0} (P : A → Type 0) (xs : List A) (at : ℕ) (y : A) → P y → AllOf P xs → AllOf P (insert xs at y)
all-insert P [] zero y p s zero d h = p
all-insert P [] zero y p s (suc k) d h = absurd (omega arith)
all-insert P [] (suc at) y p s zero d h = p
all-insert P [] (suc at) y p s (suc k) d h = absurd (omega arith)
all-insert P (x ∷ xs) zero y p s zero d h = p
all-insert P (x ∷ xs) zero y p s (suc k) d h = s k d (omega arith)
all-insert P (x ∷ xs) (suc at) y p s zero d h = s 0 d (omega arith)
all-insert P (x ∷ xs) (suc at) y p s (suc k) d h = all-insert P xs at y p (λ j c l. s (suc j) c (omega arith)) k d (omega arith)

pub all-set : {A : Type 0} (P : A → Type 0) (xs : List A) (i : ℕ) (y : A) → P y → ((k : ℕ) (d : A) → k < length xs → (k ≡ i → ⊥) → P (get_or xs k d)) → AllOf P (set xs i y)
all-set P [] i y p s k d h = absurd (omega arith)
all-set P (x ∷ xs) zero y p s zero d h = p
all-set P (x ∷ xs) zero y p s (suc k) d h = s (suc k) d (omega arith) (λ q. omega arith)
all-set P (x ∷ xs) (suc i) y p s zero d h = s 0 d (omega arith) (λ q. omega arith)
all-set P (x ∷ xs) (suc i) y p s (suc k) d h = all-set P xs i y p (λ j c l n. s (suc j) c (omega arith) (λ q. n (omega arith))) k d (omega arith)

pub all-gone : {A : Type 0} (P : A → Type 0) (xs : List A) (i : ℕ) → ((k : ℕ) (d : A) → k < length xs → (k ≡ i → ⊥) → P (get_or xs k d)) → AllOf P (without i xs)
all-gone P [] i s k d h = absurd (omega arith)
all-gone P (x ∷ xs) zero s k d h = s (suc k) d (omega arith) (λ q. omega arith)
all-gone P (x ∷ xs) (suc i) s zero d h = s 0 d (omega arith) (λ q. omega arith)
all-gone P (x ∷ xs) (suc i) s (suc k) d h = all-gone P xs i (λ j c l n. s (suc j) c (omega arith) (λ q. n (omega arith))) k d (omega arith)

-- ---- what is left

pub without-remove : {A : Type 0} (xs : List A) (i : ℕ) → i < length xs → without i xs ≡ remove xs i
without-remove [] i h = absurd (omega arith)
without-remove (x ∷ xs) zero h = refl
without-remove (x ∷ xs) (suc i) h = ap (λ z. x ∷ z) (without-remove xs i (omega arith))
