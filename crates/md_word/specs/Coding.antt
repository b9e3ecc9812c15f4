-- Ways to write values as lists of numbers and to read them back.
use Rattle.std.specs.Prelude.{◌≡◌, ℕ, zero, suc, Bool, true, false, ◌⊎◌, List, [], ◌∷◌, length, Option, Some, None, ℤ, pos, negsuc, refl}
use Rattle.std.proofs.Common.{◌∙◌, ap, inl, inr}

-- a value's numbers in front of a list, and the value and the rest of the list from them
pub record Way (A : Type 0) : Type 0 where
  pub write : A → List ℕ → List ℕ
  pub read : List ℕ → A × List ℕ
  pub back : (a : A) (rest : List ℕ) → read (write a rest) ≡ (a, rest)

-- a number is itself
abbrev pub read_number : List ℕ → ℕ × List ℕ
read_number [] = (0, [])
read_number (n ∷ rest) = (n, rest)

-- the way of a number
abbrev pub number : Way ℕ
number = record { write = λ n rest. n ∷ rest; read = read_number; back = λ n rest. refl }

-- a value of which there is only one takes no number
abbrev pub nothing : Way (Unit {0})
nothing = record { write = λ a rest. rest; read = λ l. (tt, l); back = λ a rest. refl }

-- a value by the numbers of another that gives it back
abbrev pub read_by : {A B : Type 0} → Way B → (B → A) → List ℕ → A × List ℕ
read_by way of l = (of (way.read l).0, (way.read l).1)

-- a value is read back by the numbers of another
pub back_by : {A B : Type 0} (way : Way B) (to : A → B) (of : B → A) (same : (a : A) → of (to a) ≡ a) (a : A) (rest : List ℕ) → read_by way of (way.write (to a) rest) ≡ (a, rest)
back_by way to of same a rest = ap (λ p. (of p.0, p.1)) (way.back (to a) rest) ∙ ap (λ x. (x, rest)) (same a)

-- the way of a value by that of another
abbrev pub by_way : {A B : Type 0} → Way B → (to : A → B) (of : B → A) → ((a : A) → of (to a) ≡ a) → Way A
by_way way to of same = record { write = λ a rest. way.write (to a) rest; read = read_by way of; back = back_by way to of same }

-- a flag is 0 or 1
abbrev pub flag_number : Bool → ℕ
flag_number false = 0
flag_number true = 1

-- the flag of a number
abbrev pub flag_of : ℕ → Bool
flag_of zero = false
flag_of (suc n) = true

-- a flag's number gives the flag
pub flag_same : (b : Bool) → flag_of (flag_number b) ≡ b
flag_same false = refl
flag_same true = refl

-- the way of a flag
abbrev pub flag : Way Bool
flag = by_way number flag_number flag_of flag_same

-- a pair is one after the other
abbrev pub write_both : {A B : Type 0} → Way A → Way B → A × B → List ℕ → List ℕ
write_both first second p rest = first.write p.0 (second.write p.1 rest)

-- both of a pair, one after the other
abbrev pub read_both : {A B : Type 0} → Way A → Way B → List ℕ → (A × B) × List ℕ
read_both first second l = (((first.read l).0, (second.read (first.read l).1).0), (second.read (first.read l).1).1)

-- a pair is read back
pub back_both : {A B : Type 0} (first : Way A) (second : Way B) (p : A × B) (rest : List ℕ) → read_both first second (write_both first second p rest) ≡ (p, rest)
back_both first second p rest =
    ap (λ x. ((x.0, (second.read x.1).0), (second.read x.1).1)) (first.back p.0 (second.write p.1 rest))
    ∙ ap (λ y. ((p.0, y.0), y.1)) (second.back p.1 rest)

-- the way of a pair
abbrev pub both : {A B : Type 0} → Way A → Way B → Way (A × B)
both first second = record { write = write_both first second; read = read_both first second; back = back_both first second }

-- one of two is its side, 0 or 1, and then itself
abbrev pub write_either : {A B : Type 0} → Way A → Way B → A ⊎ B → List ℕ → List ℕ
write_either first second (inl a) rest = 0 ∷ first.write a rest
write_either first second (inr b) rest = 1 ∷ second.write b rest

-- the one whose side is given
abbrev pub read_either : {A B : Type 0} → Way A → Way B → List ℕ → (A ⊎ B) × List ℕ
read_either first second [] = (inl (first.read []).0, (first.read []).1)
read_either first second (zero ∷ rest) = (inl (first.read rest).0, (first.read rest).1)
read_either first second (suc n ∷ rest) = (inr (second.read rest).0, (second.read rest).1)

-- one of two is read back
pub back_either : {A B : Type 0} (first : Way A) (second : Way B) (x : A ⊎ B) (rest : List ℕ) → read_either first second (write_either first second x rest) ≡ (x, rest)
back_either first second (inl a) rest = ap (λ p. (inl p.0, p.1)) (first.back a rest)
back_either first second (inr b) rest = ap (λ p. (inr p.0, p.1)) (second.back b rest)

-- the way of one of two
abbrev pub either : {A B : Type 0} → Way A → Way B → Way (A ⊎ B)
either first second = record { write = write_either first second; read = read_either first second; back = back_either first second }

-- an integer is its sign and its size
abbrev pub sides_of : ℤ → ℕ ⊎ ℕ
sides_of (pos n) = inl n
sides_of (negsuc n) = inr n

-- the integer of a sign and a size
abbrev pub integer_of : ℕ ⊎ ℕ → ℤ
integer_of (inl n) = pos n
integer_of (inr n) = negsuc n

-- an integer's sign and size give the integer
pub integer_same : (x : ℤ) → integer_of (sides_of x) ≡ x
integer_same (pos n) = refl
integer_same (negsuc n) = refl

-- the way of an integer
abbrev pub integer : Way ℤ
integer = by_way (either number number) sides_of integer_of integer_same

-- an option is nothing or its value
abbrev pub option_sides : {A : Type 0} → Option A → Unit {0} ⊎ A
option_sides None = inl tt
option_sides (Some a) = inr a

-- the option of nothing or a value
abbrev pub option_of : {A : Type 0} → Unit {0} ⊎ A → Option A
option_of (inl u) = None
option_of (inr a) = Some a

-- an option's nothing or value gives the option
pub option_same : {A : Type 0} (x : Option A) → option_of (option_sides x) ≡ x
option_same None = refl
option_same (Some a) = refl

-- the way of an option
abbrev pub maybe : {A : Type 0} → Way A → Way (Option A)
maybe way = by_way (either nothing way) option_sides option_of option_same

-- a list is its length, and then its values
abbrev pub write_all : {A : Type 0} → Way A → List A → List ℕ → List ℕ
write_all way [] rest = rest
write_all way (x ∷ xs) rest = way.write x (write_all way xs rest)

-- so many values, one after the other
abbrev pub read_all : {A : Type 0} → Way A → ℕ → List ℕ → List A × List ℕ
read_all way zero l = ([], l)
read_all way (suc n) l = ((way.read l).0 ∷ (read_all way n (way.read l).1).0, (read_all way n (way.read l).1).1)

-- a list's values are read back
pub back_all : {A : Type 0} (way : Way A) (xs : List A) (rest : List ℕ) → read_all way (length xs) (write_all way xs rest) ≡ (xs, rest)
back_all way [] rest = refl
back_all way (x ∷ xs) rest =
    ap (λ p. (p.0 ∷ (read_all way (length xs) p.1).0, (read_all way (length xs) p.1).1)) (way.back x (write_all way xs rest))
    ∙ ap (λ q. (x ∷ q.0, q.1)) (back_all way xs rest)

-- the way of a list
abbrev pub many : {A : Type 0} → Way A → Way (List A)
many way = record {
  write = λ xs rest. length xs ∷ write_all way xs rest;
  read = λ l. read_all way (read_number l).0 (read_number l).1;
  back = back_all way;
}
