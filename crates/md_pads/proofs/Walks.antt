-- The walk over the versions: where bytes spell a recording of none of them, they are invalid at the end of
-- the longest prefix that a recording of some version begins with.
use Rattle.std.proofs.Common.{◌≡◌, ℕ, ◌+◌, ◌<◌, ◌≤◌, List, [], length, get_or, take, max, refl, subst, sym, inl, inr, arith}
use Rattle.std.specs.Cmp.{nat_cmp_is}
use Rattle.std.specs.Ordering.{nat_cmp, ord_max}
use Rattle.std.proofs.Common.{Less, Equal, Greater}
use Rattle.std.proofs.lemmas.Bool.{cases_lt, cases_eq}
use Rattle.std.proofs.lemmas.List.Elements.{All-from_recursion}
use Rattle.md_pads.specs.Recording.{BeginsRecording, InvalidAt, HasButtons, spelling}
use Rattle.md_pads.specs.Reading.{BeginsIn, IsLongestIn, IsSpelledIn, versions}
use Rattle.md_pads.specs.declared.version.Version.{Version}
use Rattle.md_pads.specs.declared.version.Version.TheVariants.{First}
use Rattle.md_pads.proofs.Versions.{version_listed}

abbrev version_at : ℕ → Version
version_at i = get_or versions i First

-- what is found of the first so many versions: the bytes spell a recording of none of them, and a place is
-- the longest of their prefixes
pub record Walked (bytes : List ℕ) (count place : ℕ) : Type 0 where
  pub within : place ≤ length bytes
  pub begins : BeginsRecording (take place bytes)
  pub none : (i : ℕ) → i < count → ¬ IsSpelledIn (version_at i) bytes
  pub longest : (i n : ℕ) → i < count → n ≤ length bytes → BeginsIn (version_at i) (take n bytes) → n ≤ place

begins-any : (version : Version) (bytes : List ℕ) → BeginsIn version bytes → BeginsRecording bytes
begins-any version bytes (frames, rest, spelled) = (record { version = version; frames = frames }, rest, spelled)

-- a recording of no frames begins with no bytes
begins-none : (bytes : List ℕ) → BeginsIn First (take 0 bytes)
begins-none bytes = ([], spelling (record { version = First; frames = [] }), record { recording = record { few = omega arith; words = All-from_recursion (HasButtons First) [] tt }; all = refl })

pub begun : (bytes : List ℕ) → Walked bytes 0 0
begun bytes = record {
  within = omega arith;
  begins = begins-any First (take 0 bytes) (begins-none bytes);
  none = λ i lt. absurd (omega arith);
  longest = λ i n lt. absurd (omega arith);
}

-- the greater of two numbers, as `max` of the code has it
pub most-is : (a b : ℕ) → ord_max nat_cmp a b ≡ max a b
most-is a b =
    elim (cases_lt b a) [
      | inl lt ↦ let less : Less ≡ nat_cmp b a = nat_cmp_is b a Less lt in rw (← less) (let same : a ≡ max a b = omega arith in same)
      | inr le ↦ elim (cases_eq b a) [
        | inl eq ↦ let same : Equal ≡ nat_cmp b a = nat_cmp_is b a Equal eq in rw (← same) (let most : b ≡ max a b = omega arith in most)
        | inr ne ↦ let more : Greater ≡ nat_cmp b a = nat_cmp_is b a Greater (omega arith) in rw (← more) (let most : b ≡ max a b = omega arith in most)
      ]
    ]

-- one version more
pub walked-more : (bytes : List ℕ) (count place prefix : ℕ) → Walked bytes count place → IsLongestIn (version_at count) bytes prefix → ¬ IsSpelledIn (version_at count) bytes → Walked bytes (count + 1) (max place prefix)
walked-more bytes count place prefix walked here none =
    let some : BeginsRecording (take prefix bytes) = begins-any (version_at count) (take prefix bytes) here.begins in
    record {
      within = let a = walked.within in let b = here.within in omega arith;
      begins = elim (cases_lt prefix place) [
        | inl lt ↦ let same : place ≡ max place prefix = omega arith in subst (λ (n : ℕ). BeginsRecording (take n bytes)) same walked.begins
        | inr le ↦ let same : prefix ≡ max place prefix = omega arith in subst (λ (n : ℕ). BeginsRecording (take n bytes)) same some
      ];
      none = λ i lt spelled. elim (cases_eq i count) [
        | inl last ↦ none (subst (λ (n : ℕ). IsSpelledIn (version_at n) bytes) last spelled)
        | inr other ↦ walked.none i (omega arith) spelled
      ];
      longest = λ i n lt long begins_n. elim (cases_eq i count) [
        | inl last ↦ let le = here.longest n long (subst (λ (m : ℕ). BeginsIn (version_at m) (take n bytes)) last begins_n) in omega arith
        | inr other ↦ let le = walked.longest i n (omega arith) long begins_n in omega arith
      ];
    }

-- each version was reached
found-in : (bytes : List ℕ) (place : ℕ) → Walked bytes 5 place → (version : Version) → ¬ IsSpelledIn version bytes
found-in bytes place walked version spelled =
    let l = version_listed version in
    walked.none l.place l.within (subst (λ (v : Version). IsSpelledIn v bytes) (sym l.here) spelled)

within-longest : (bytes : List ℕ) (place : ℕ) → Walked bytes 5 place → (version : Version) (n : ℕ) → n ≤ length bytes → BeginsIn version (take n bytes) → n ≤ place
within-longest bytes place walked version n long begins_n =
    let l = version_listed version in
    walked.longest l.place n l.within long (subst (λ (v : Version). BeginsIn v (take n bytes)) (sym l.here) begins_n)

-- the end of the walk
pub walked-all : (bytes : List ℕ) (place : ℕ) → Walked bytes 5 place → InvalidAt bytes place
walked-all bytes place walked =
    record {
      none = λ spelled. found-in bytes place walked spelled.0.version (spelled.0.frames, spelled.1);
      longest = record {
        within = walked.within;
        begins = walked.begins;
        longest = λ n long begins_n. within-longest bytes place walked begins_n.0.version n long (begins_n.0.frames, begins_n.1, begins_n.2);
      };
    }
