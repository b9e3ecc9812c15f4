-- Parts of writes in order, and parts of a history with the writes after it.
use Rattle.std.proofs.Common.{◌≡◌, ◌∙◌, refl, sym, ap, ℕ, ◌<◌, ◌≤◌, Bool, true, false, ◌&&◌, nat_lt, nat_le, List, [], ◌∷◌, ◌++◌, filter, arith}
use Rattle.std.proofs.lemmas.List.{append-nil}
use Rattle.std.proofs.lemmas.List.Elements.{filter-append}
use Rattle.std.proofs.lemmas.Bool.{lt-ltb, le-ltb, le-leb, lt-leb, and_left, and_right}
use Rattle.sound_writes.specs.Order.{is_below, is_from, stamped, IsInOrder}

pub from-later : (a b x : ℕ) → a ≤ b → (nat_le a x && nat_le b x) ≡ nat_le b x
from-later a b x h = grind arith

pub filter-none : {A : Type 0} (stamp : A → ℕ) (p : A → Bool) (low high : ℕ) (ws : List A) → IsInOrder stamp low high ws
    → ((w : A) → low ≤ stamp w → stamp w < high → p w ≡ false) → filter p ws ≡ []
filter-none stamp p low high [] o h = refl
filter-none stamp p low high (w ∷ ws) o h =
    let rest = filter-none stamp p (stamp w) high ws o.2 (λ v k l. h v (omega (arith, o.0, k)) l) in
    let no = h w o.0 o.1 in grind (arith, rest, no)

pub filter-same : {A : Type 0} (stamp : A → ℕ) (p q : A → Bool) (low high : ℕ) (ws : List A) → IsInOrder stamp low high ws
    → ((w : A) → low ≤ stamp w → stamp w < high → p w ≡ q w) → filter p ws ≡ filter q ws
filter-same stamp p q low high [] o h = refl
filter-same stamp p q low high (w ∷ ws) o h =
    let rest = filter-same stamp p q (stamp w) high ws o.2 (λ v k l. h v (omega (arith, o.0, k)) l) in
    let same = h w o.0 o.1 in grind (arith, rest, same)

pub filter-all : {A : Type 0} (stamp : A → ℕ) (p : A → Bool) (low high : ℕ) (ws : List A) → IsInOrder stamp low high ws
    → ((w : A) → low ≤ stamp w → stamp w < high → p w ≡ true) → filter p ws ≡ ws
filter-all stamp p low high [] o h = refl
filter-all stamp p low high (w ∷ ws) o h =
    let rest = filter-all stamp p (stamp w) high ws o.2 (λ v k l. h v (omega (arith, o.0, k)) l) in
    let yes = h w o.0 o.1 in grind (arith, rest, yes)

pub filter-filter : {A : Type 0} (p q : A → Bool) (ws : List A) → filter p (filter q ws) ≡ filter (λ w. q w && p w) ws
filter-filter p q [] = refl
filter-filter p q (w ∷ ws) = let rest = filter-filter p q ws in grind (arith, rest)

-- ---- a history and the writes after it

pub stamped-before : {A : Type 0} (stamp : A → ℕ) (a b low high : ℕ) (history ws : List A) → IsInOrder stamp low high ws → b ≤ low
    → stamped stamp a b (history ++ ws) ≡ stamped stamp a b history
stamped-before {A = A} stamp a b low high history ws o h =
    let p : A → Bool = λ v. nat_le a (stamp v) && nat_lt (stamp v) b in
    filter-append p history ws
    ∙ ap (λ r. filter p history ++ r) (filter-none stamp p low high ws o
    (λ v k l. and_right (nat_le a (stamp v)) (nat_lt (stamp v) b) (le-ltb (stamp v) b (omega (arith, h, k)))))
    ∙ append-nil (filter p history)

pub stamped-following : {A : Type 0} (stamp : A → ℕ) (a b low high : ℕ) (history ws : List A) → IsInOrder stamp low high history → high ≤ a
    → stamped stamp a b (history ++ ws) ≡ stamped stamp a b ws
stamped-following {A = A} stamp a b low high history ws o h =
    let p : A → Bool = λ v. nat_le a (stamp v) && nat_lt (stamp v) b in
    filter-append p history ws
    ∙ ap (λ r. r ++ filter p ws) (filter-none stamp p low high history o
    (λ v k l. and_left (nat_le a (stamp v)) (nat_lt (stamp v) b) (lt-leb a (stamp v) (omega (arith, h, l)))))

-- the writes from a cycle on and below a second are those of the history, and of the others those
-- below it
pub stamped-over : {A : Type 0} (stamp : A → ℕ) (a b cut high : ℕ) (history ws : List A) → IsInOrder stamp 0 cut history
    → IsInOrder stamp cut high ws → a ≤ cut → cut ≤ b
    → stamped stamp a b (history ++ ws) ≡ stamped stamp a cut history ++ filter (is_below stamp b) ws
stamped-over {A = A} stamp a b cut high history ws past span h k =
    let p : A → Bool = λ v. nat_le a (stamp v) && nat_lt (stamp v) b in
    let q : A → Bool = λ v. nat_le a (stamp v) && nat_lt (stamp v) cut in
    let front : filter p history ≡ filter q history = filter-same stamp p q 0 cut history past
    (λ v i j. ap (λ c. nat_le a (stamp v) && c) (lt-ltb (stamp v) b (omega (arith, j, k)) ∙ sym (lt-ltb (stamp v) cut j))) in
    let back : filter p ws ≡ filter (is_below stamp b) ws = filter-same stamp p (is_below stamp b) cut high ws span
    (λ v i j. ap (λ c. c && nat_lt (stamp v) b) (le-leb a (stamp v) (omega (arith, i, h)))) in
    filter-append p history ws ∙ (λ i. front i ++ back i)

-- what is left of the writes from a cycle on, from a later cycle on
pub filter-later : {A : Type 0} (stamp : A → ℕ) (a b low high : ℕ) (ws : List A) → IsInOrder stamp low high ws → a ≤ b
    → filter (is_from stamp b) (filter (is_from stamp a) ws) ≡ filter (is_from stamp b) ws
filter-later stamp a b low high ws o h =
    filter-filter (is_from stamp b) (is_from stamp a) ws
    ∙ filter-same stamp (λ v. is_from stamp a v && is_from stamp b v) (is_from stamp b) low high ws o (λ v i j. from-later a b (stamp v) h)
