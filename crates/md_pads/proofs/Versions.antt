-- What a recording's bytes begin with, by its version.
use Rattle.std.proofs.Common.{◌≡◌, ℕ, suc, ◌+◌, ◌*◌, ◌%◌, ◌<◌, ◌≤◌, Bool, true, false, List, [], ◌∷◌, length, get_or, refl, sym, ap, ◌∙◌, arith}
use Rattle.std.proofs.lemmas.Slice.Eq.{HasBytesAt, text_from_reads}
use Rattle.md_word.specs.Coding.{flag_number, flag_of, flag_same}
use Rattle.md_pads.specs.Recording.{lead}
use Rattle.md_pads.specs.Reading.{versions}
use Rattle.md_pads.specs.declared.version.Version.{Version}
use Rattle.md_pads.specs.declared.version.Version.TheVariants.{First, Second}

-- eight bytes, or ten
pub lead-few : (version : Version) → (8 ≤ length (lead version)) × (length (lead version) ≤ 10)
lead-few First = (omega arith, omega arith)
lead-few (Second pad1 pad2) = (omega arith, omega arith)

-- of more than eight there are ten
pub lead-long : (version : Version) → 8 < length (lead version) → 9 < length (lead version)
lead-long First long = absurd (omega arith)
lead-long (Second pad1 pad2) long = omega arith

-- bytes that are at each place where others are
same_bytes : (xs ys : List ℕ) (i : ℕ) → ((j : ℕ) → j < length ys → get_or xs (i + j) 0 ≡ get_or ys j 0) → HasBytesAt xs i ys
same_bytes xs [] i same = tt
same_bytes xs (y ∷ ys) i same =
    let here : i + 0 ≡ i = omega arith in (
      ap (λ (n : ℕ). get_or xs n 0) (sym here) ∙ same 0 (omega arith),
      same_bytes xs ys (suc i) (λ j lt. let place : suc i + j ≡ i + suc j = omega arith in ap (λ (n : ℕ). get_or xs n 0) place ∙ same (suc j) (omega arith)),
    )

-- bytes that begin as a lead does have it
pub is_lead : (xs : List ℕ) (version : Version) → length xs ≡ length (lead version) → ((i : ℕ) → i < length (lead version) → get_or xs i 0 ≡ get_or (lead version) i 0) → xs ≡ lead version
is_lead xs version len same = text_from_reads xs (lead version) len (same_bytes xs (lead version) 0 (λ j lt. let none : 0 + j ≡ j = omega arith in ap (λ (n : ℕ). get_or xs n 0) none ∙ same j lt))

pub record Listed (version : Version) : Type 0 where
  pub place : ℕ
  pub within : place < 5
  pub here : get_or versions place First ≡ version

-- each version is in the list of all
pub version_listed : (version : Version) → Listed version
version_listed First = record { place = 0; within = omega arith; here = refl }
version_listed (Second false false) = record { place = 1; within = omega arith; here = refl }
version_listed (Second true false) = record { place = 2; within = omega arith; here = refl }
version_listed (Second false true) = record { place = 3; within = omega arith; here = refl }
version_listed (Second true true) = record { place = 4; within = omega arith; here = refl }

flag-few : (flag : Bool) → flag_number flag ≤ 1
flag-few true = omega arith
flag-few false = omega arith

-- a word of flags has one pair of them
same_flags : (a b c d : Bool) → (flag_number a + 2 * flag_number b) % 256 ≡ (flag_number c + 2 * flag_number d) % 256 → (a ≡ c) × (b ≡ d)
same_flags a b c d same =
    let first : flag_number a ≡ flag_number c = omega (arith, flag-few a, flag-few b, flag-few c, flag-few d) in
    let second : flag_number b ≡ flag_number d = omega (arith, flag-few a, flag-few b, flag-few c, flag-few d) in
    (sym (flag_same a) ∙ ap flag_of first ∙ flag_same c, sym (flag_same b) ∙ ap flag_of second ∙ flag_same d)

-- two versions that begin alike are one
pub one_version : (a b : Version) → get_or (lead a) 7 0 ≡ get_or (lead b) 7 0 → (8 < length (lead a) → 8 < length (lead b) → get_or (lead a) 9 0 ≡ get_or (lead b) 9 0) → a ≡ b
one_version First First mark flags = refl
one_version First (Second c d) mark flags = absurd (omega arith)
one_version (Second a b) First mark flags = absurd (omega arith)
one_version (Second a b) (Second c d) mark flags = λ i. Second ((same_flags a b c d (flags (omega arith) (omega arith))).0 i) ((same_flags a b c d (flags (omega arith) (omega arith))).1 i)
