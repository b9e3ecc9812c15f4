-- The registers of a list, one after another.
use Rattle.std.proofs.Common.{ℕ, zero, suc, ◌≡◌, ◌+◌, Bool, true, false, not, ◌&&◌, if◌then◌else◌, List, [], ◌∷◌, ◌++◌, codes, add-one, append-nil, append_assoc, ap, ◌∙◌, sym, refl}
use Rattle.std.specs.List.{filter, flat_map, join_by}
use Rattle.std.proofs.lemmas.Grind.{flat_map-append}
use Rattle.std.proofs.lemmas.List.Elements.{filter-append}
use Rattle.md_disasm.specs.Listed68.{are_absent, listed, next}
use Rattle.md_disasm.specs.Operands68.{is_listed, register_name, registers}

-- the registers below a number are put, and whether there are none
pub record IsPutBelow (turned : Bool) (list n : ℕ) (first : Bool) (old new : List ℕ) : Type 0 where
  pub none : first ≡ are_absent turned list n
  pub text : new ≡ old ++ listed turned list n

pub put_none : (turned : Bool) (list : ℕ) (old : List ℕ) → IsPutBelow turned list 0 true old old
unfolding are_absent listed
put_none turned list old = record { none = refl; text = sym (append-nil old) }

pub put_one : (turned : Bool) (list n : ℕ) (first after : Bool) (old mid new : List ℕ)
    → IsPutBelow turned list n first old mid → new ≡ mid ++ (if is_listed turned list n then next first n else [])
    → after ≡ first && not (is_listed turned list n) → IsPutBelow turned list (n + 1) after old new
unfolding are_absent listed
put_one turned list n first after old mid new before put reports = rw add-one (record {
  none = reports ∙ ap (λ (b : Bool). b && not (is_listed turned list n)) before.none;
  text = put ∙ ap (λ (l : List ℕ). l ++ (if is_listed turned list n then next first n else [])) before.text
      ∙ append_assoc old (listed turned list n) (if is_listed turned list n then next first n else [])
      ∙ ap (λ (b : Bool). old ++ (listed turned list n ++ (if is_listed turned list n then next b n else []))) before.none;
})

abbrev is_empty : List ℕ → Bool
is_empty [] = true
is_empty (x ∷ xs) = false

join_more : (f : ℕ → List ℕ) (mark : List ℕ) (xs : List ℕ) (x : ℕ)
    → join_by f mark (xs ++ (x ∷ [])) ≡ join_by f mark xs ++ ((if is_empty xs then [] else mark) ++ f x)
join_more f mark [] x = append-nil (f x)
join_more f mark (y ∷ ys) x =
    ap (λ (l : List ℕ). f y ++ l) (flat_map-append (λ (z : ℕ). mark ++ f z) ys (x ∷ []) ∙ ap (λ (l : List ℕ). flat_map (λ (z : ℕ). mark ++ f z) ys ++ l) (append-nil (mark ++ f x)))
    ∙ sym (append_assoc (f y) (flat_map (λ (z : ℕ). mark ++ f z) ys) (mark ++ f x))

empty_more : (xs : List ℕ) (x : ℕ) → is_empty (xs ++ (x ∷ [])) ≡ false
empty_more [] x = refl
empty_more (y ∷ ys) x = refl

below : ℕ → List ℕ
below zero = []
below (suc n) = below n ++ (n ∷ [])

and_false : (b : Bool) → b && false ≡ false
and_false true = refl
and_false false = refl

and_true : (b : Bool) → b && true ≡ b
and_true true = refl
and_true false = refl

-- what is put is the names of the chosen registers, with a slash between each two
record IsJoined (put : List ℕ) (absent : Bool) (chosen : List ℕ) : Type 0 where
  none : absent ≡ is_empty chosen
  names : put ≡ join_by register_name (codes "/") chosen

joined_more : (here : Bool) (n : ℕ) (put : List ℕ) (absent : Bool) (chosen : List ℕ) → IsJoined put absent chosen
    → IsJoined (put ++ (if here then next absent n else [])) (absent && not here) (chosen ++ (if here then n ∷ [] else []))
joined_more true n put absent chosen before = record {
  none = and_false absent ∙ sym (empty_more chosen n);
  names = ap (λ (l : List ℕ). l ++ next absent n) before.names
      ∙ ap (λ (b : Bool). join_by register_name (codes "/") chosen ++ next b n) before.none
      ∙ sym (join_more register_name (codes "/") chosen n);
}
joined_more false n put absent chosen before = record {
  none = and_true absent ∙ before.none ∙ ap is_empty (sym (append-nil chosen));
  names = append-nil put ∙ before.names ∙ ap (λ (l : List ℕ). join_by register_name (codes "/") l) (sym (append-nil chosen));
}

joined : (turned : Bool) (list n : ℕ) → IsJoined (listed turned list n) (are_absent turned list n) (filter (is_listed turned list) (below n))
unfolding are_absent listed below
joined turned list zero = record { none = refl; names = refl }
joined turned list (suc n) =
    rw (filter-append (is_listed turned list) (below n) (n ∷ []))
    (joined_more (is_listed turned list n) n (listed turned list n) (are_absent turned list n) (filter (is_listed turned list) (below n)) (joined turned list n))

pub all_listed : (turned : Bool) (list : ℕ) → listed turned list 16 ≡ join_by register_name (codes "/") (filter (is_listed turned list) registers)
unfolding below
all_listed turned list = (joined turned list 16).names
