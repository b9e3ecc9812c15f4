-- What bytes of any version are, from what their migration is.
use Rattle.std.proofs.Common.{◌≡◌, ◌≢◌, ◌∙◌, ℕ, ◌≤◌, min, List, [], ◌∷◌, ◌++◌, length, take, drop, get_or, refl, sym, ap, subst, arith, inl, inr}
use Rattle.std.specs.Prelude.{replicate}
use Rattle.std.proofs.lemmas.List.{drop_at, length-append, length-drop, length-replicate, length-take, take-append-le, take-take, take_at}
use Rattle.sha2.specs.Sha256.{sha256}
use Rattle.md_chips.specs.Starts.{Start}
use Rattle.save_state.specs.Faults.{HasForm}
use Rattle.save_state.specs.Refusals.{FieldFailsBack}
use Rattle.save_state.specs.Layout.{digest_part, magic_part, part_of, state_size}
use Rattle.save_state.specs.States.{IsNewest, mark}
use Rattle.save_state.specs.OldPads.{HasPads}
use Rattle.save_state.specs.Versions.{HasVersion, IsOtherCart, IsState, IsUnversioned, IsInvalidAt, from_first, from_second, magic_of, migrated, other_size, size_of, strange, unmarked}
use Rattle.save_state.specs.declared.fault.StateFault.TheVariants.{OtherCart}
use Rattle.save_state.specs.declared.version.Version.{Version}
use Rattle.save_state.specs.declared.version.Version.TheVariants.{First, Second, Third}
use Rattle.save_state.proofs.ReadLaws.{bad, parts_of_state}

-- ---- bytes have one version

pub magics_differ : (v w : Version) → magic_of v ≡ magic_of w → v ≡ w
magics_differ First First e = refl
magics_differ Second Second e = refl
magics_differ Third Third e = refl
magics_differ First Second e = (let last : 49 ≡ 50 = ap (λ (l : List ℕ). get_or l 7 0) e in absurd (omega (arith, last)))
magics_differ First Third e = (let last : 49 ≡ 51 = ap (λ (l : List ℕ). get_or l 7 0) e in absurd (omega (arith, last)))
magics_differ Second First e = (let last : 50 ≡ 49 = ap (λ (l : List ℕ). get_or l 7 0) e in absurd (omega (arith, last)))
magics_differ Second Third e = (let last : 50 ≡ 51 = ap (λ (l : List ℕ). get_or l 7 0) e in absurd (omega (arith, last)))
magics_differ Third First e = (let last : 51 ≡ 49 = ap (λ (l : List ℕ). get_or l 7 0) e in absurd (omega (arith, last)))
magics_differ Third Second e = (let last : 51 ≡ 50 = ap (λ (l : List ℕ). get_or l 7 0) e in absurd (omega (arith, last)))

some-size : (v : Version) → 8 ≤ size_of v
some-size First = omega arith
some-size Second = omega arith
some-size Third = omega arith

mark-long : (v : Version) → length (magic_of v) ≡ 8
mark-long First = refl
mark-long Second = refl
mark-long Third = refl

-- bytes with a magic are long enough for it
marked-long : (v : Version) (bytes : List ℕ) → part_of magic_part bytes ≡ magic_of v → 8 ≤ length bytes
marked-long v bytes e = omega (arith, ap length e ∙ mark-long v, length-take 8 (drop 0 bytes), length-drop 0 bytes)

pub unversioned : (v : Version) (bytes : List ℕ) (place : ℕ) → IsUnversioned bytes place → HasVersion v bytes → ⊥
unversioned v bytes place (unmarked few e) has = omega (arith, few, has.long, some-size v)
unversioned v bytes place (strange long none e) has = none v has.magic_is
unversioned v bytes place (other_size w m ne e) has =
    ne (has.long ∙ ap size_of (magics_differ v w (sym has.magic_is ∙ m)))

pub one_place : (bytes : List ℕ) (p q : ℕ) → IsUnversioned bytes p → IsUnversioned bytes q → p ≡ q
one_place bytes p q (unmarked few e) (unmarked few' f) = e ∙ sym f
one_place bytes p q (unmarked few e) (strange long none f) = absurd (omega (arith, few, long))
one_place bytes p q (unmarked few e) (other_size w m ne f) = absurd (omega (arith, few, marked-long w bytes m))
one_place bytes p q (strange long none e) (unmarked few f) = absurd (omega (arith, few, long))
one_place bytes p q (strange long none e) (strange long' none' f) = e ∙ sym f
one_place bytes p q (strange long none e) (other_size w m ne f) = absurd (none w m)
one_place bytes p q (other_size w m ne e) (unmarked few f) = absurd (omega (arith, few, marked-long w bytes m))
one_place bytes p q (other_size w m ne e) (strange long none f) = absurd (none w m)
one_place bytes p q (other_size v m ne e) (other_size w n nf f) =
    e ∙ ap (λ (u : Version). min (length bytes) (size_of u)) (magics_differ v w (sym m ∙ n)) ∙ sym f

-- ---- their migration

abbrev first-rest : List ℕ → List ℕ
first-rest bytes = (0 ∷ []) ++ (take 139783 (drop 48 bytes) ++ ((0 ∷ []) ++ (take 215050 (drop 139831 bytes) ++ (replicate 15360 0 ++ (drop 354881 bytes ++ replicate 18 0)))))

migrated-first : (bytes : List ℕ) → migrated First bytes ≡ mark ++ (take 40 (drop 8 bytes) ++ first-rest bytes)
unfolding migrated from_first
migrated-first bytes = refl

-- what follows the picture's scanlines of the first version
rows-following-long : (bytes : List ℕ) → length bytes ≡ 378240 → length (replicate 15360 0 ++ (drop 354881 bytes ++ replicate 18 0)) ≡ 38737
rows-following-long bytes long =
    let rows = length-append (replicate 15360 0) (drop 354881 bytes ++ replicate 18 0) in
    let rest = length-append (drop 354881 bytes) (replicate 18 0) in
    let cut = length-drop 354881 bytes in
    omega (arith, long, rows, rest, cut, length-replicate {A = ℕ} 15360 0, length-replicate {A = ℕ} 18 0)

-- from the drawing on
old-renderer_state-long : (bytes : List ℕ) → length bytes ≡ 378240 → length (take 215050 (drop 139831 bytes) ++ (replicate 15360 0 ++ (drop 354881 bytes ++ replicate 18 0))) ≡ 253787
old-renderer_state-long bytes long =
    let all = length-append (take 215050 (drop 139831 bytes)) (replicate 15360 0 ++ (drop 354881 bytes ++ replicate 18 0)) in
    omega (arith, long, all, rows-following-long bytes long, length-take 215050 (drop 139831 bytes), length-drop 139831 bytes)

-- and from the region on
rest-long : (bytes : List ℕ) → length bytes ≡ 378240 → length (first-rest bytes) ≡ 393572
rest-long bytes long =
    let renderer_state = take 215050 (drop 139831 bytes) ++ (replicate 15360 0 ++ (drop 354881 bytes ++ replicate 18 0)) in
    let all = length-append (take 139783 (drop 48 bytes)) ((0 ∷ []) ++ renderer_state) in
    omega (arith, long, all, old-renderer_state-long bytes long, length-take 139783 (drop 48 bytes), length-drop 48 bytes)

migrated-long : (bytes : List ℕ) → length bytes ≡ 378240 → length (migrated First bytes) ≡ state_size
migrated-long bytes long =
    let front = take 40 (drop 8 bytes) in
    omega (
      arith,
      long,
      ap length (migrated-first bytes),
      length-append mark (front ++ first-rest bytes),
      length-append front (first-rest bytes),
      rest-long bytes long,
      length-take 40 (drop 8 bytes),
      length-drop 8 bytes,
    )

migrated-second : (bytes : List ℕ) → migrated Second bytes ≡ mark ++ (drop 8 bytes ++ replicate 18 0)
unfolding migrated from_second
migrated-second bytes = refl

second-long : (bytes : List ℕ) → length bytes ≡ 393602 → length (migrated Second bytes) ≡ state_size
second-long bytes long =
    omega (
      arith,
      long,
      ap length (migrated-second bytes),
      length-append mark (drop 8 bytes ++ replicate 18 0),
      length-append (drop 8 bytes) (replicate 18 0),
      length-drop 8 bytes,
      length-replicate {A = ℕ} 18 0,
    )

third-form : (bytes : List ℕ) → HasVersion Third bytes → HasForm (migrated Third bytes)
unfolding migrated
third-form bytes has = record { long = has.long; mark = has.magic_is }

pub form_of : (v : Version) (bytes : List ℕ) → HasVersion v bytes → HasForm (migrated v bytes)
form_of First bytes has = record {
  long = migrated-long bytes has.long;
  mark = ap (take 8) (migrated-first bytes) ∙ take_at mark (take 40 (drop 8 bytes) ++ first-rest bytes) 8 refl;
}
form_of Second bytes has = record {
  long = second-long bytes has.long;
  mark = ap (take 8) (migrated-second bytes) ∙ take_at mark (drop 8 bytes ++ replicate 18 0) 8 refl;
}
form_of Third bytes has = third-form bytes has

third-digest : (bytes : List ℕ) → part_of digest_part (migrated Third bytes) ≡ part_of digest_part bytes
unfolding migrated
third-digest bytes = refl

pub same_digest : (v : Version) (bytes : List ℕ) → HasVersion v bytes → part_of digest_part (migrated v bytes) ≡ part_of digest_part bytes
same_digest First bytes has =
    let front = take 40 (drop 8 bytes) in
    let long : 32 ≤ length front = omega (arith, has.long, length-take 40 (drop 8 bytes), length-drop 8 bytes) in
    ap (λ (l : List ℕ). take 32 (drop 8 l)) (migrated-first bytes)
    ∙ ap (take 32) (drop_at mark (front ++ first-rest bytes) 8 refl)
    ∙ take-append-le 32 front (first-rest bytes) long
    ∙ take-take 32 40 (drop 8 bytes) (omega arith)
same_digest Second bytes has =
    let long : 32 ≤ length (drop 8 bytes) = omega (arith, has.long, length-drop 8 bytes) in
    ap (λ (l : List ℕ). take 32 (drop 8 l)) (migrated-second bytes)
    ∙ ap (take 32) (drop_at mark (drop 8 bytes ++ replicate 18 0) 8 refl)
    ∙ take-append-le 32 (drop 8 bytes) (replicate 18 0) long
same_digest Third bytes has = third-digest bytes

-- ---- what the bytes are

pub found_of : (v : Version) (cart bytes : List ℕ) (start : Start) → HasVersion v bytes → HasPads v (migrated v bytes) → IsNewest cart (migrated v bytes) start → IsState cart bytes start
found_of v cart bytes start has pads newest = record { version = v; has = has; pads = pads; newest = newest }

pub only_of : (v : Version) (cart bytes : List ℕ) (start : Start) → HasVersion v bytes → IsState cart bytes start → HasPads v (migrated v bytes) × IsNewest cart (migrated v bytes) start
only_of v cart bytes start has is =
    subst (λ (w : Version). HasPads w (migrated w bytes) × IsNewest cart (migrated w bytes) start) (magics_differ is.version v (sym is.has.magic_is ∙ has.magic_is)) (is.pads, is.newest)

-- what a machine is kept in
third-state : (cart bytes : List ℕ) (start : Start) → HasVersion Third bytes → IsNewest cart bytes start → IsState cart bytes start
unfolding migrated
third-state cart bytes start has newest = record { version = Third; has = has; pads = (λ e. absurd cc, λ e. absurd cc); newest = newest }

pub newest_state : (cart bytes : List ℕ) (start : Start) → IsNewest cart bytes start → IsState cart bytes start
newest_state cart bytes start newest =
    let parts = parts_of_state cart bytes start newest in
    third-state cart bytes start (record { magic_is = parts.head; long = parts.long }) newest

pub state_own : (cart bytes : List ℕ) (start : Start) → IsState cart bytes start → part_of digest_part bytes ≡ sha256 cart
state_own cart bytes start is =
    sym (same_digest is.version bytes is.has) ∙ (parts_of_state cart (migrated is.version bytes) start is.newest).digest_is

pub form_invalid : (v : Version) (cart bytes : List ℕ) (place : ℕ) → HasVersion v bytes → FieldFailsBack v cart (migrated v bytes) place → IsInvalidAt cart bytes place
form_invalid v cart bytes place has w =
    inr (record { version = v; has = has; own = sym (same_digest v bytes has) ∙ w.own; field = w.field; first = w.first; place_is = w.place_is })

pub invalid_of : (v : Version) (cart bytes : List ℕ) (place : ℕ) → HasVersion v bytes → IsInvalidAt cart bytes place → FieldFailsBack v cart (migrated v bytes) place
invalid_of v cart bytes place has (inl none) = absurd (unversioned v bytes place none has)
invalid_of v cart bytes place has (inr w) =
    subst (λ (u : Version). FieldFailsBack u cart (migrated u bytes) place) (magics_differ w.version v (sym w.has.magic_is ∙ has.magic_is))
    (record { field = w.field; own = same_digest w.version bytes w.has ∙ w.own; first = w.first; place_is = w.place_is })

pub invalid_own : (v : Version) (cart bytes : List ℕ) (place : ℕ) → HasVersion v bytes → IsInvalidAt cart bytes place → part_of digest_part bytes ≡ sha256 cart
invalid_own v cart bytes place has w = sym (same_digest v bytes has) ∙ (invalid_of v cart bytes place has w).own

pub invalid_unversioned : (cart bytes : List ℕ) (p q : ℕ) → IsUnversioned bytes p → IsInvalidAt cart bytes q → p ≡ q
invalid_unversioned cart bytes p q none (inl other) = one_place bytes p q none other
invalid_unversioned cart bytes p q none (inr w) = absurd (unversioned w.version bytes p none w.has)

-- ---- another cartridge

pub other_cart : (v : Version) (cart bytes kept digest k g : List ℕ) → HasVersion v bytes → kept ≡ part_of digest_part bytes → digest ≡ sha256 cart → kept ≢ digest
    → bad (OtherCart kept digest) ≡ bad (OtherCart k g) → IsOtherCart cart bytes k g
other_cart v cart bytes kept digest k g has ek ed ne e =
    let a : kept ≡ k = cc in
    let b : digest ≡ g = cc in
    record { version = v; has = has; kept_is = sym a ∙ ek; given_is = sym b ∙ ed; differ = λ same. ne (a ∙ same ∙ sym b) }

pub same_cart : (cart bytes k g : List ℕ) → part_of digest_part bytes ≡ sha256 cart → IsOtherCart cart bytes k g → ⊥
same_cart cart bytes k g d o = o.differ (o.kept_is ∙ d ∙ sym o.given_is)
