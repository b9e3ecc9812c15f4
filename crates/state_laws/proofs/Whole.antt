-- Any bytes have one verdict as a saved state, and no two.
use Rattle.std.proofs.Common.{◌≡◌, ◌≢◌, ◌⊎◌, inl, inr, ℕ, zero, suc, ◌-◌, ◌==◌, Bool, true, false, List, [], ◌∷◌, ◌++◌, length, take, drop, replicate, min, Result, Ok, Err, refl, sym, ap, subst, ◌∙◌, arith}
use Rattle.std.specs.Prelude.{nat_lt, slice_index}
use Rattle.std.specs.List.{list_all}
use Rattle.std.specs.Str.{bytes_eq}
use Rattle.std.proofs.lemmas.Bool.{and_parts, cases_Bool, cases_eq, cases_lt, ltb-true}
use Rattle.std.proofs.lemmas.Bool.Decides.{not_from_Decides}
use Rattle.std.proofs.lemmas.List.{get_or_append_left, get_or-append_right}
use Rattle.std.proofs.lemmas.Slice.Eq.{bytes_eq-Decides}
use Rattle.sha2.specs.Sha256.{sha256}
use Rattle.md_fields.specs.Places.{IsBytes}
use Rattle.md_fields.proofs.Refusals.{failed}
use Rattle.md_fields.proofs.Standing.{IsBytes-drop, IsBytes-take}
use Rattle.md_word.specs.Clock.{last_cycle}
use Rattle.md_word.specs.declared.unspell.Unspell.{Unspell}
use Rattle.md_word.specs.declared.unspell.Unspell.TheVariants.{NoMemory, Rule}
use Rattle.md_pads.specs.Recording.{Recorded}
use Rattle.m68k_chip.specs.Spelling as main
use Rattle.z80_chip.specs.Spelling as sub
use Rattle.vdp_chip.specs.Spelling as renderer_state
use Rattle.fm_port.proofs.PortBytes as fm_port_laws
use Rattle.fm_chip.specs.SynthSpelling as fm
use Rattle.psg_sound.specs.SynthSpelling as psg
use Rattle.psg_sound.proofs.PortBytes as psg_port_laws
use Rattle.bus_shared.specs.Spelling as shared
use Rattle.md_chips.specs.Console.{renderer_state_in}
use Rattle.md_chips.specs.Machines.{MachineValue}
use Rattle.md_chips.specs.Starts.{Start}
use Rattle.save_state.specs.declared.fault.StateFault.{StateFault}
use Rattle.save_state.specs.declared.layout.Part.{Part}
use Rattle.save_state.specs.declared.version.Version.{Version}
use Rattle.save_state.specs.declared.version.Version.TheVariants.{First, Second, Third}
use Rattle.save_state.specs.Faults.{FailsAt, IsMachineOf}
use Rattle.save_state.specs.Items.{at_of, region_of, main_next, sub_next, holder_in, main_bytes, sub_bytes, shared_bytes, renderer_state_bytes, HasLateFm, HasLatePsg, IsMain, MainFails, IsSub, SubFails, IsShared, SharedFails, IsPicture, RendererStateFails, IsFm, FmFails, IsPsg, PsgFails}
use Rattle.save_state.specs.Joining.{Either, KeepsBoth, Reads, with_rule}
use Rattle.save_state.specs.OldPads.{FailsUnder, HasOthers, HasPads, IsMachineUnder, has_buttons, pads1_place, pads2_place}
use Rattle.std.specs.Int.{w16}
use Rattle.md_fields.specs.Places.{number_at}
use Rattle.save_state.specs.Layout.{digest_part, renderer_state_part, fm_part, fm_port_part, gathered, main_part, magic_part, part_of, psg_part, psg_port_part, region_part, shared_parts, sub_parts}
use Rattle.save_state.specs.Pieces.{Fails, KeepsPieces, Pieces, built}
use Rattle.save_state.specs.States.{IsNewest, are_fm_early, are_psg_early, mark}
use Rattle.save_state.specs.Versions.{HasVersion, IsOtherCart, IsState, IsInvalidAt, from_first, from_second, magic_of, migrated, other_size, place_back, size_of, strange, unmarked}
use Rattle.save_state.proofs.Joins.{fine, reads_ruled}
use Rattle.save_state.proofs.MachineLaws.{IsAtRight, IsCycle, at_refused, machine_read, machine_refused, region_refused}
use Rattle.save_state.proofs.ReadLaws.{from_start, parts_of_state, read_found, read_only, read_pads, read_invalid}
use Rattle.save_state.proofs.VersionLaws.{form_of, form_invalid, found_of, only_of, same_cart, same_digest, state_own, invalid_of, invalid_own, invalid_unversioned}
use Rattle.save_state.proofs.WholeLaws.{machine_there}
use Rattle.state_laws.specs.Verdicts.{IsStateVerdict, Keeps, OfOther, StateVerdict, StateInvalidAt}
use Rattle.state_laws.proofs.Chips.{BoardKept, board_verdict, renderer_state_verdict, fm_port_verdict, fm_verdict, main_verdict, psg_port_verdict, psg_verdict, sub_verdict}
use Rattle.state_laws.proofs.Deciding.{Verdict}
use Rattle.state_laws.proofs.Items.{Answered, renderer_state_answered, fm_answered, main_answered, psg_answered, shared_answered, sub_answered, two}

-- ---- what the bytes of each chip are found to be

record Validated (cart : List ℕ) (recording : Recorded) (bytes : List ℕ) : Type 0 where
  main : Verdict (main.Spells cart (at_of bytes) (main_bytes bytes)) (main.InvalidAt cart (at_of bytes) (main_bytes bytes))
  sub : Verdict (sub.Spells cart (at_of bytes) (sub_bytes bytes)) (sub.InvalidAt cart (at_of bytes) (sub_bytes bytes))
  shared : Verdict (BoardKept recording (at_of bytes) (region_of bytes) (shared_bytes bytes)) (shared.InvalidAt (at_of bytes) (region_of bytes) (shared_bytes bytes))
  renderer_state : Verdict (renderer_state.Spells (at_of bytes) (region_of bytes) (renderer_state_bytes bytes)) (renderer_state.InvalidAt (at_of bytes) (region_of bytes) (renderer_state_bytes bytes))
  fm : Verdict (fm.SpellsSynth (part_of fm_part bytes)) (fm.SynthInvalidAt (part_of fm_part bytes))
  psg : Verdict (psg.SpellsSynth (part_of psg_part bytes)) (psg.SynthInvalidAt (part_of psg_part bytes))
  fm_late : HasLateFm bytes ⊎ (HasLateFm bytes → ⊥)
  psg_late : HasLatePsg bytes ⊎ (HasLatePsg bytes → ⊥)

part_bytes : (part : Part) (bytes : List ℕ) → IsBytes bytes → IsBytes (part_of part bytes)
part_bytes part bytes fits = IsBytes-take part.size _ (IsBytes-drop part.place bytes fits)

both_bytes : (front back : List ℕ) → IsBytes front → IsBytes back → IsBytes (front ++ back)
both_bytes front back f b i = elim (cases_lt i (length front)) [
  | inl lt ↦ rw (get_or_append_left front back 0 i lt) (f i)
  | inr le ↦ rw (get_or-append_right front back (length front) i 0 refl le) (b (i - length front))
]

gathered_bytes : (parts : List Part) (bytes : List ℕ) → IsBytes bytes → IsBytes (gathered parts bytes)
gathered_bytes [] bytes fits i = omega arith
gathered_bytes (p ∷ ps) bytes fits i = both_bytes (part_of p bytes) (gathered ps bytes) (part_bytes p bytes fits) (gathered_bytes ps bytes fits) i

-- a port that is kept has a late write, or none
fm_late : (bytes : List ℕ) → IsBytes bytes → HasLateFm bytes ⊎ (HasLateFm bytes → ⊥)
fm_late bytes fits = elim (fm_port_verdict (at_of bytes) (part_of fm_port_part bytes) (part_bytes fm_port_part bytes fits)) [
  | inl kept ↦ (elim (cases_Bool (are_fm_early (main_next bytes) (sub_next bytes) kept.0)) [
    | inl early ↦ inr (λ late. (
        let same = fm_port_laws.spelled_once (at_of bytes) (part_of fm_port_part bytes) late.port kept.0 late.spells kept.1 in
        let e = sym late.late ∙ ap (are_fm_early (main_next bytes) (sub_next bytes)) same ∙ early in
        absurd cc))
    | inr late ↦ inl (record { port = kept.0; spells = kept.1; late = late })
  ])
  | inr invalid ↦ inr (λ late. fm_port_laws.right_nowhere (at_of bytes) (part_of fm_port_part bytes) late.port late.spells invalid.0 invalid.1)
]

psg_late : (bytes : List ℕ) → IsBytes bytes → HasLatePsg bytes ⊎ (HasLatePsg bytes → ⊥)
psg_late bytes fits = elim (psg_port_verdict (at_of bytes) (part_of psg_port_part bytes) (part_bytes psg_port_part bytes fits)) [
  | inl kept ↦ (elim (cases_Bool (are_psg_early (main_next bytes) (sub_next bytes) kept.0)) [
    | inl early ↦ inr (λ late. (
        let same = psg_port_laws.spelled_once (at_of bytes) (part_of psg_port_part bytes) late.port kept.0 late.spells kept.1 in
        let e = sym late.late ∙ ap (are_psg_early (main_next bytes) (sub_next bytes)) same ∙ early in
        absurd cc))
    | inr late ↦ inl (record { port = kept.0; spells = kept.1; late = late })
  ])
  | inr invalid ↦ inr (λ late. psg_port_laws.right_nowhere (at_of bytes) (part_of psg_port_part bytes) late.port late.spells invalid.0 invalid.1)
]

-- of any bytes
validated_bytes : (cart : List ℕ) (recording : Recorded) (bytes : List ℕ) → IsBytes bytes → Validated cart recording bytes
validated_bytes cart recording bytes fits = record {
  main = main_verdict cart (at_of bytes) (main_bytes bytes) (part_bytes main_part bytes fits);
  sub = sub_verdict cart (at_of bytes) (sub_bytes bytes) (gathered_bytes (sub_parts (holder_in bytes == 0)) bytes fits);
  shared = board_verdict recording (at_of bytes) (region_of bytes) (shared_bytes bytes) (gathered_bytes (shared_parts (holder_in bytes == 1)) bytes fits);
  renderer_state = renderer_state_verdict (at_of bytes) (region_of bytes) (renderer_state_bytes bytes) (part_bytes renderer_state_part bytes fits);
  fm = fm_verdict (part_of fm_part bytes) (part_bytes fm_part bytes fits);
  psg = psg_verdict (part_of psg_part bytes) (part_bytes psg_part bytes fits);
  fm_late = fm_late bytes fits;
  psg_late = psg_late bytes fits;
}

-- of any numbers that keep a machine
validated_machine : (cart : List ℕ) (recording : Recorded) (bytes : List ℕ) (m : MachineValue) → IsMachineOf cart recording bytes m → Validated cart recording bytes
validated_machine cart recording bytes m is = record {
  main = inl (m.console.main, is.main.spells);
  sub = inl (m.console.sub.state, is.sub.spells);
  shared = inl (m.console.shared, (is.shared.spells, is.shared.pads));
  renderer_state = inl (renderer_state_in m.console, is.renderer_state);
  fm = inl (m.console.fm, is.fm.spells);
  psg = inl (m.console.psg, is.psg.spells);
  fm_late = inr is.fm.writes;
  psg_late = inr is.psg.writes;
}

-- ---- the machine

pieces_answered : (cart : List ℕ) (recording : Recorded) (bytes : List ℕ) → Validated cart recording bytes → Answered (KeepsPieces cart recording bytes) (Fails cart bytes)
pieces_answered cart recording bytes j =
    let processors = two (IsMain cart bytes) (IsSub cart bytes) (MainFails cart bytes) (SubFails cart bytes) (main_answered cart bytes j.main) (sub_answered cart bytes j.sub) in
    let board = two (IsShared recording bytes) (IsPicture bytes) (SharedFails bytes) (RendererStateFails bytes) (shared_answered recording bytes j.shared) (renderer_state_answered bytes j.renderer_state) in
    let sound = two (IsFm bytes) (IsPsg bytes) (FmFails bytes) (PsgFails bytes) (fm_answered bytes j.fm j.fm_late) (psg_answered bytes j.psg j.psg_late) in
    two (KeepsBoth (IsMain cart bytes) (IsSub cart bytes)) (KeepsBoth (KeepsBoth (IsShared recording bytes) (IsPicture bytes)) (KeepsBoth (IsFm bytes) (IsPsg bytes)))
    (Either (MainFails cart bytes) (SubFails cart bytes)) (Either (Either (SharedFails bytes) (RendererStateFails bytes)) (Either (FmFails bytes) (PsgFails bytes))) processors
    (two (KeepsBoth (IsShared recording bytes) (IsPicture bytes)) (KeepsBoth (IsFm bytes) (IsPsg bytes)) (Either (SharedFails bytes) (RendererStateFails bytes)) (Either (FmFails bytes) (PsgFails bytes)) board sound)

same_fault : {T U : Type 0} (fault : Unspell) → failed {T = T} fault ≡ failed NoMemory → failed {T = U} fault ≡ failed NoMemory
same_fault {T} {U} fault e = let f : fault ≡ NoMemory = cc in ap (λ (x : Unspell). failed {T = U} x) f

from_pieces : (cart : List ℕ) (recording : Recorded) (bytes : List ℕ) → IsAtRight bytes → (p : Answered (KeepsPieces cart recording bytes) (Fails cart bytes)) (all : Result Pieces Unspell) → p.answer ≡ all
    → Answered (IsMachineOf cart recording bytes) (FailsAt cart bytes)
from_pieces cart recording bytes right p (Ok t) e = record {
  answer = Ok (built (at_of bytes) t);
  reads = machine_read cart recording bytes (at_of bytes) t (built (at_of bytes) t) p.answer refl right e refl p.reads;
  memory = λ w. cc;
}
from_pieces cart recording bytes right p (Err fault) e = record {
  answer = failed fault;
  reads = machine_refused cart recording bytes p.answer fault right e p.reads;
  memory = λ w. p.memory (e ∙ same_fault {T = MachineValue} {U = Pieces} fault w);
}

cycle_cases : (bytes : List ℕ) → IsCycle bytes ⊎ (IsCycle bytes → ⊥)
cycle_cases bytes = elim (cases_lt (at_of bytes) 1) [
  | inl low ↦ inr (λ right. omega (arith, low, right.0))
  | inr begun ↦ (elim (cases_lt last_cycle (at_of bytes)) [
    | inl far ↦ inr (λ right. omega (arith, far, right.1))
    | inr near ↦ inl (begun, near)
  ])
]

machine_answered : (cart : List ℕ) (recording : Recorded) (bytes : List ℕ) → Validated cart recording bytes → Answered (IsMachineOf cart recording bytes) (FailsAt cart bytes)
machine_answered cart recording bytes j = elim (cycle_cases bytes) [
  | inr invalid ↦ record { answer = failed (Rule 40); reads = at_refused cart recording bytes invalid; memory = λ w. cc }
  | inl cycle ↦ (elim (cases_lt 1 (slice_index bytes region_part.place)) [
    | inl more ↦ record { answer = failed (Rule 48); reads = region_refused cart recording bytes cycle (λ few. omega (arith, more, few)); memory = λ w. cc }
    | inr few ↦ (let p = pieces_answered cart recording bytes j in from_pieces cart recording bytes (cycle, few) p p.answer refl)
  ])
]

-- by the rules of a version
ruled_memory : (answer : Result MachineValue Unspell) (holds : Bool) (place : ℕ) → answer ≢ failed NoMemory → with_rule answer holds place ≢ failed NoMemory
ruled_memory answer true place memory = memory
ruled_memory (Ok m) false place memory = λ w. cc
ruled_memory (Err (Rule p)) false place memory = λ w. cc
ruled_memory (Err NoMemory) false place memory = λ w. memory refl

answered_under : (v : Version) (cart : List ℕ) (recording : Recorded) (bytes : List ℕ) → Validated cart recording bytes → Answered (IsMachineUnder v cart recording bytes) (FailsUnder v cart bytes)
answered_under v cart recording bytes j =
    let a = machine_answered cart recording bytes j in
    let first = has_buttons v (number_at w16 pads1_place bytes) in
    let second = has_buttons v (number_at w16 pads2_place bytes) in
    record {
      answer = with_rule (with_rule a.answer first pads1_place) second pads2_place;
      reads = reads_ruled _ _ _ second pads2_place (HasOthers v pads2_place bytes) (λ e. e) (λ e. e) (reads_ruled _ _ _ first pads1_place (HasOthers v pads1_place bytes) (λ e. e) (λ e. e) a.reads);
      memory = ruled_memory (with_rule a.answer first pads1_place) second pads2_place (ruled_memory a.answer first pads1_place a.memory);
    }

-- ---- there is a verdict

-- on bytes of a version and of this cartridge, from what their migration is read as
verdict_by : (v : Version) (cart : List ℕ) (recording : Recorded) (bytes : List ℕ) → IsBytes (migrated v bytes) → HasVersion v bytes → part_of digest_part (migrated v bytes) ≡ sha256 cart
    → (answer : Result MachineValue Unspell) → Reads (IsMachineUnder v cart recording (migrated v bytes)) (FailsUnder v cart (migrated v bytes)) answer → answer ≢ failed NoMemory
    → (verdict : StateVerdict) × IsStateVerdict cart recording bytes verdict
verdict_by v cart recording bytes fits has d (Ok m) reads memory =
    let found = read_found v cart recording (migrated v bytes) m fits (form_of v bytes has) d reads in
    let start : Start = record { at = m.at; console = m.console } in
    (Keeps start, (found_of v cart bytes start has (read_pads v cart recording (migrated v bytes) m reads) found.0, found.1))
verdict_by v cart recording bytes fits has d (Err (Rule place)) reads memory =
    (StateInvalidAt (place_back v place), form_invalid v cart bytes (place_back v place) has (record { field = place; own = d; first = reads.least place refl; place_is = refl }))
verdict_by v cart recording bytes fits has d (Err NoMemory) reads memory = absurd (memory refl)

same_or_not : (xs ys : List ℕ) → (xs ≡ ys) ⊎ (xs ≢ ys)
same_or_not xs ys = elim (cases_Bool (bytes_eq xs ys)) [
  | inl e ↦ inl ((bytes_eq-Decides xs ys).0 e)
  | inr e ↦ inr (not_from_Decides (bytes_eq xs ys) (bytes_eq-Decides xs ys) e)
]

-- bytes are migrated to bytes
zeros_fit : (count : ℕ) → IsBytes (replicate count 0)
zeros_fit zero i = omega arith
zeros_fit (suc count) zero = omega arith
zeros_fit (suc count) (suc i) = zeros_fit count i

small_fit : (l : List ℕ) → list_all (λ n. nat_lt n 256) l ≡ true → IsBytes l
small_fit [] e i = omega arith
small_fit (n ∷ ns) e zero = ltb-true n 256 (and_parts _ _ e).0
small_fit (n ∷ ns) e (suc i) = small_fit ns (and_parts _ _ e).1 i

first_fit : (bytes : List ℕ) → IsBytes bytes → IsBytes (from_first bytes)
unfolding from_first
first_fit bytes fits =
    both_bytes mark _ (small_fit mark refl)
    (both_bytes (take 40 (drop 8 bytes)) _ (IsBytes-take 40 _ (IsBytes-drop 8 bytes fits))
    (both_bytes (0 ∷ []) _ (zeros_fit 1)
    (both_bytes (take 139783 (drop 48 bytes)) _ (IsBytes-take 139783 _ (IsBytes-drop 48 bytes fits))
    (both_bytes (0 ∷ []) _ (zeros_fit 1)
    (both_bytes (take 215050 (drop 139831 bytes)) _ (IsBytes-take 215050 _ (IsBytes-drop 139831 bytes fits))
    (both_bytes (replicate 15360 0) _ (zeros_fit 15360)
    (both_bytes (drop 354881 bytes) (replicate 18 0) (IsBytes-drop 354881 bytes fits) (zeros_fit 18))))))))

second_fit : (bytes : List ℕ) → IsBytes bytes → IsBytes (from_second bytes)
unfolding from_second
second_fit bytes fits =
    both_bytes mark _ (small_fit mark refl) (both_bytes (drop 8 bytes) (replicate 18 0) (IsBytes-drop 8 bytes fits) (zeros_fit 18))

migrated_fit : (v : Version) (bytes : List ℕ) → IsBytes bytes → IsBytes (migrated v bytes)
unfolding migrated
migrated_fit First bytes fits = first_fit bytes fits
migrated_fit Second bytes fits = second_fit bytes fits
migrated_fit Third bytes fits = fits

versioned : (v : Version) (cart : List ℕ) (recording : Recorded) (bytes : List ℕ) → IsBytes bytes → HasVersion v bytes → (verdict : StateVerdict) × IsStateVerdict cart recording bytes verdict
versioned v cart recording bytes fits has = elim (same_or_not (part_of digest_part bytes) (sha256 cart)) [
  | inr differ ↦ (OfOther (part_of digest_part bytes) (sha256 cart), record { version = v; has = has; kept_is = refl; given_is = refl; differ = differ })
  | inl d ↦ (
      let newest_fits = migrated_fit v bytes fits in
      let a = answered_under v cart recording (migrated v bytes) (validated_bytes cart recording (migrated v bytes) newest_fits) in
      verdict_by v cart recording bytes newest_fits has (same_digest v bytes has ∙ d) a.answer a.reads a.memory)
]

marked : (v : Version) (cart : List ℕ) (recording : Recorded) (bytes : List ℕ) → IsBytes bytes → part_of magic_part bytes ≡ magic_of v → (verdict : StateVerdict) × IsStateVerdict cart recording bytes verdict
marked v cart recording bytes fits m = elim (cases_eq (length bytes) (size_of v)) [
  | inl long ↦ versioned v cart recording bytes fits (record { magic_is = m; long = long })
  | inr other ↦ (StateInvalidAt (min (length bytes) (size_of v)), inl (other_size v m other refl))
]

no_magic : (bytes : List ℕ) → part_of magic_part bytes ≢ magic_of First → part_of magic_part bytes ≢ magic_of Second → part_of magic_part bytes ≢ magic_of Third → (v : Version) → part_of magic_part bytes ≢ magic_of v
no_magic bytes first second third First = first
no_magic bytes first second third Second = second
no_magic bytes first second third Third = third

pub some_verdict : (cart : List ℕ) (recording : Recorded) (bytes : List ℕ) → IsBytes bytes → (verdict : StateVerdict) × IsStateVerdict cart recording bytes verdict
some_verdict cart recording bytes fits = elim (cases_lt (length bytes) 8) [
  | inl few ↦ (StateInvalidAt (length bytes), inl (unmarked few refl))
  | inr long ↦ (elim (same_or_not (part_of magic_part bytes) (magic_of Second)) [
    | inl m ↦ marked Second cart recording bytes fits m
    | inr second ↦ (elim (same_or_not (part_of magic_part bytes) (magic_of First)) [
      | inl m ↦ marked First cart recording bytes fits m
      | inr first ↦ (elim (same_or_not (part_of magic_part bytes) (magic_of Third)) [
        | inl m ↦ marked Third cart recording bytes fits m
        | inr third ↦ (StateInvalidAt 0, inl (strange long (no_magic bytes first second third) refl))
      ])
    ])
  ])
]

-- ---- and no other

reads_of : (v : Version) (cart : List ℕ) (recording : Recorded) (bytes : List ℕ) (start : Start) → HasPads v bytes → IsNewest cart bytes start → start.console.shared.recording ≡ recording
    → Reads (IsMachineUnder v cart recording bytes) (FailsUnder v cart bytes) (fine (from_start start))
reads_of v cart recording bytes start old s pads =
    let is = machine_there cart (sha256 cart) bytes recording start s.saved (parts_of_state cart bytes start s) pads in
    let a = answered_under v cart recording bytes (validated_machine cart recording bytes (from_start start) is) in
    subst (Reads (IsMachineUnder v cart recording bytes) (FailsUnder v cart bytes)) (a.reads.only (from_start start) ((is, old.0), old.1) a.memory) a.reads

start_of : Start → Result MachineValue StateFault → Start
start_of start (Ok m) = record { at = m.at; console = m.console }
start_of start (Err fault) = start

pub one_machine : (cart : List ℕ) (recording : Recorded) (bytes : List ℕ) (a b : Start) → IsState cart bytes a → a.console.shared.recording ≡ recording → IsState cart bytes b → b.console.shared.recording ≡ recording → a ≡ b
unfolding start_of
one_machine cart recording bytes a b s pads t other =
    let newest = migrated s.version bytes in
    let second = only_of s.version cart bytes b s.has t in
    ap (start_of a) (read_only s.version cart recording newest (from_start a) b (reads_of s.version cart recording newest a s.pads s.newest pads) second.0 second.1 other)

not_invalid : (cart : List ℕ) (recording : Recorded) (bytes : List ℕ) (start : Start) (place : ℕ) → IsState cart bytes start → start.console.shared.recording ≡ recording → IsInvalidAt cart bytes place → ⊥
not_invalid cart recording bytes start place s pads invalid =
    let newest = migrated s.version bytes in
    read_invalid s.version cart recording newest (from_start start) place (reads_of s.version cart recording newest start s.pads s.newest pads) (invalid_of s.version cart bytes place s.has invalid)

not_both : (cart bytes kept given : List ℕ) (place : ℕ) → IsOtherCart cart bytes kept given → IsInvalidAt cart bytes place → ⊥
not_both cart bytes kept given place o invalid = o.differ (o.kept_is ∙ invalid_own o.version cart bytes place o.has invalid ∙ sym o.given_is)

one_place : (cart bytes : List ℕ) (p q : ℕ) → IsInvalidAt cart bytes p → IsInvalidAt cart bytes q → p ≡ q
one_place cart bytes p q (inl a) invalid = invalid_unversioned cart bytes p q a invalid
one_place cart bytes p q (inr a) (inl b) = sym (invalid_unversioned cart bytes q p b (inr a))
one_place cart bytes p q (inr a) (inr b) =
    let w = invalid_of a.version cart bytes q a.has (inr b) in
    let same : a.field ≡ w.field = omega (arith, a.first.least w.field w.first.fails, w.first.least a.field a.first.fails) in
    a.place_is ∙ ap (place_back a.version) same ∙ sym w.place_is

pub one_verdict : (cart : List ℕ) (recording : Recorded) (bytes : List ℕ) (a b : StateVerdict) → IsStateVerdict cart recording bytes a → IsStateVerdict cart recording bytes b → a ≡ b
one_verdict cart recording bytes (Keeps a) (Keeps b) p q = ap Keeps (one_machine cart recording bytes a b p.0 p.1 q.0 q.1)
one_verdict cart recording bytes (Keeps a) (OfOther kept given) p q = absurd (same_cart cart bytes kept given (state_own cart bytes a p.0) q)
one_verdict cart recording bytes (Keeps a) (StateInvalidAt place) p q = absurd (not_invalid cart recording bytes a place p.0 p.1 q)
one_verdict cart recording bytes (OfOther kept given) (Keeps b) p q = absurd (same_cart cart bytes kept given (state_own cart bytes b q.0) p)
one_verdict cart recording bytes (OfOther kept given) (OfOther k g) p q = λ i. OfOther ((p.kept_is ∙ sym q.kept_is) i) ((p.given_is ∙ sym q.given_is) i)
one_verdict cart recording bytes (OfOther kept given) (StateInvalidAt place) p q = absurd (not_both cart bytes kept given place p q)
one_verdict cart recording bytes (StateInvalidAt place) (Keeps b) p q = absurd (not_invalid cart recording bytes b place q.0 q.1 p)
one_verdict cart recording bytes (StateInvalidAt place) (OfOther kept given) p q = absurd (not_both cart bytes kept given place q p)
one_verdict cart recording bytes (StateInvalidAt place) (StateInvalidAt other) p q = ap StateInvalidAt (one_place cart bytes place other p q)
