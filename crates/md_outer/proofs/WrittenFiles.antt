-- What files hold that are written one after another.
use Rattle.std.proofs.Common.{◌≡◌, ◌≢◌, ℕ, Bool, true, false, cond, List, [], ◌++◌, Some, refl, sym, ap, subst, ◌∙◌, append-nil}
use Rattle.std.specs.Str.{bytes_eq}
use Rattle.std.proofs.lemmas.Bool.{false_from_ne_true, true≢false}
use Rattle.std.proofs.lemmas.Slice.Eq.{bytes_eq-Decides}
use mathlib.Core.Path.{fun_ext}
use Rattle.md_outer.specs.Outside.{Files, IsPrefix, bytes_of, with_file}

-- a choice within a choice by the same test
cond-cond : {A : Type 0} (b : Bool) (x y z : A) → cond b x (cond b y z) ≡ cond b x z
cond-cond true x y z = refl
cond-cond false x y z = refl

-- the later bytes of a file count
pub with_file-with_file : (files : Files) (name first second : List ℕ) → with_file (with_file files name first) name second ≡ with_file files name second
with_file-with_file files name first second = fun_ext (λ other. cond-cond (bytes_eq name other) (Some second) (Some first) (files other))

pub bytes_of-with_file : (files : Files) (name bytes : List ℕ) → bytes_of (with_file files name bytes) name ≡ bytes
bytes_of-with_file files name bytes = rw ((bytes_eq-Decides name name).1 refl) refl

-- two choices whose tests do not both hold change places
cond-comm : {A : Type 0} (p q : Bool) (x y z : A) → (p ≡ true → q ≡ true → ⊥) → cond q y (cond p x z) ≡ cond p x (cond q y z)
cond-comm true true x y z apart = absurd (apart refl refl)
cond-comm true false x y z apart = refl
cond-comm false true x y z apart = refl
cond-comm false false x y z apart = refl

-- files of two names change places
pub with_file-comm : (files : Files) (a b x y : List ℕ) → bytes_eq a b ≡ false → with_file (with_file files a x) b y ≡ with_file (with_file files b y) a x
with_file-comm files a b x y differs =
    fun_ext (λ other. cond-comm (bytes_eq a other) (bytes_eq b other) (Some x) (Some y) (files other)
    (λ first second. true≢false (sym ((bytes_eq-Decides a b).1 ((bytes_eq-Decides a other).0 first ∙ sym ((bytes_eq-Decides b other).0 second))) ∙ differs)))

-- files of other names are as they were
pub with_file-other : (files : Files) (output bytes name : List ℕ) → output ≢ name → with_file files output bytes name ≡ files name
with_file-other files output bytes name differ =
    let other : bytes_eq output name ≡ false = false_from_ne_true (bytes_eq output name) (λ same. differ ((bytes_eq-Decides output name).0 same)) in
    rw other refl

-- a piece after the bytes of a file
pub file-longer : (base files new : Files) (name begun piece : List ℕ) → files ≡ with_file base name begun → new ≡ with_file files name (bytes_of files name ++ piece)
    → new ≡ with_file base name (begun ++ piece)
file-longer base files new name begun piece is appended =
    let from : new ≡ with_file (with_file base name begun) name (bytes_of (with_file base name begun) name ++ piece) =
    subst (λ (m : Files). new ≡ with_file m name (bytes_of m name ++ piece)) is appended in
    let same : bytes_of (with_file base name begun) name ++ piece ≡ begun ++ piece = ap (λ (l : List ℕ). l ++ piece) (bytes_of-with_file base name begun) in
    from ∙ ap (λ (l : List ℕ). with_file (with_file base name begun) name l) same ∙ with_file-with_file base name begun (begun ++ piece)

pub prefix-self : (l : List ℕ) → IsPrefix l l
prefix-self l = ([], append-nil l)
