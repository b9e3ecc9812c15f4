-- A machine from the items that are read together.
use Rattle.std.proofs.Common.{◌≡◌, ℕ, zero, suc, ◌+◌, ◌-◌, ◌*◌, ◌/◌, ◌%◌, ◌<◌, ◌≤◌, leb, ltb, eqb, Bool, true, false, ◌==◌, ◌⊎◌, List, [], ◌∷◌, length, refl, sym, ap, subst, ◌∙◌, arith, inl, inr, Result}
use Rattle.std.specs.Prelude.{slice_index}
use Rattle.std.proofs.lemmas.Bool.{leb-true, ltb-true, eqb-true, and_parts}
use Rattle.md_word.specs.Clock as clock
use Rattle.md_word.specs.Clock.{last_cycle}
use Rattle.md_word.specs.declared.unspell.Unspell.{Unspell}
use Rattle.md_word.specs.declared.unspell.Unspell.TheVariants.{Rule, NoMemory}
use Rattle.md_fields.specs.Fields.{AllHold}
use Rattle.md_fields.proofs.Items.{rules_hold}
use Rattle.md_pads.specs.Recording.{Recorded}
use Rattle.m68k_chip.specs.Numbers.{numbers_of}
use Rattle.m68k_chip.specs.Saved as saved68
use Rattle.m68k_chip.specs.Validity.{Chip68Value}
use Rattle.m68k_chip.specs.Spelling as main
use Rattle.m68k_chip.specs.States.{State68, next_of}
use Rattle.z80_chip.specs.Saved as saved80
use Rattle.z80_chip.specs.Validity.{Chip80Value}
use Rattle.z80_chip.specs.Spelling as sub
use Rattle.z80_chip.specs.States.{State80}
use Rattle.z80_chip.specs.States.{next_of as sub_next_of}
use Rattle.vdp_chip.specs.RendererState.{RendererState}
use Rattle.vdp_chip.specs.Saved as saved_renderer_state
use Rattle.vdp_chip.specs.Spelling as renderer_state
use Rattle.fm_chip.specs.Synth as fm_synths
use Rattle.fm_chip.specs.SynthSpelling as fm
use Rattle.psg_sound.specs.SynthSpelling as psg
use Rattle.bus_shared.specs.Spelling as shared
use Rattle.psg_sound.specs.Synth as psg_synths
use Rattle.bus_shared.specs.Board.{Board}
use Rattle.md_chips.specs.Console.{Console, renderer_state_in, key_in, IsQuiet}
use Rattle.md_chips.specs.Machines.{MachineValue}
use Rattle.md_chips.specs.Starts.{IsStart, first_batch, first_line}
use Rattle.save_state.specs.Faults.{FailsAt, at_is_invalid, region_is_invalid, main_is_invalid, sub_is_invalid, shared_is_invalid, renderer_state_is_invalid, fm_is_invalid, psg_is_invalid, IsMachineOf}
use Rattle.save_state.specs.declared.layout.Part.{Part}
use Rattle.save_state.specs.Items.{at_of, region_of, holder_in, main_bytes, sub_bytes, shared_bytes, renderer_state_bytes, IsMain, MainFails, IsSub, SubFails, chip_fails, holder_fails, IsShared, SharedFails, board_fails, resets_fail, IsPicture, RendererStateFails, IsFm, FmFails, synth_fails, next_fails, writes_fail, IsPsg, PsgFails, psg_synth_fails, psg_next_fails, psg_writes_fail}
use Rattle.save_state.specs.Layout.{are_ordered, main_part, sub_parts, shared_parts, renderer_state_part, fm_part, psg_part, part_of}
use Rattle.save_state.specs.Joining.{Reads, FailsIn, both, KeepsBoth, Either}
use Rattle.save_state.specs.Pieces.{Pieces, KeepsPieces, Fails, built}
use Rattle.md_fields.proofs.Refusals.{failed}
use Rattle.save_state.proofs.Joins.{fine, joined}
use Rattle.save_state.proofs.Places.{from_first}

-- ---- the items together

pub processors_read : (cart bytes : List ℕ) (m : Result Chip68Value Unspell) (s : Result Chip80Value Unspell) (processors : Result (Chip68Value × Chip80Value) Unspell)
    → processors ≡ both m s → Reads (IsMain cart bytes) (MainFails cart bytes) m → Reads (IsSub cart bytes) (SubFails cart bytes) s → Reads (KeepsBoth (IsMain cart bytes) (IsSub cart bytes)) (Either (MainFails cart bytes) (SubFails cart bytes)) processors
processors_read cart bytes m s processors e rm rs =
    subst (Reads (KeepsBoth (IsMain cart bytes) (IsSub cart bytes)) (Either (MainFails cart bytes) (SubFails cart bytes))) (sym e) (joined (IsMain cart bytes) (IsSub cart bytes) (MainFails cart bytes) (SubFails cart bytes) m s rm rs)

pub chips_read : (recording : Recorded) (bytes : List ℕ) (b : Result Board Unspell) (d : Result RendererState Unspell) (f : Result fm_synths.Synth Unspell) (p : Result psg_synths.Synth Unspell) (board : Result (Board × RendererState) Unspell) (sound : Result (fm_synths.Synth × psg_synths.Synth) Unspell) (chips : Result ((Board × RendererState) × (fm_synths.Synth × psg_synths.Synth)) Unspell)
    → board ≡ both b d → sound ≡ both f p → chips ≡ both board sound → Reads (IsShared recording bytes) (SharedFails bytes) b → Reads (IsPicture bytes) (RendererStateFails bytes) d → Reads (IsFm bytes) (FmFails bytes) f → Reads (IsPsg bytes) (PsgFails bytes) p
    → Reads (KeepsBoth (KeepsBoth (IsShared recording bytes) (IsPicture bytes)) (KeepsBoth (IsFm bytes) (IsPsg bytes))) (Either (Either (SharedFails bytes) (RendererStateFails bytes)) (Either (FmFails bytes) (PsgFails bytes))) chips
chips_read recording bytes b d f p board sound chips eb es ec rb rd rf rp =
    subst (Reads (KeepsBoth (KeepsBoth (IsShared recording bytes) (IsPicture bytes)) (KeepsBoth (IsFm bytes) (IsPsg bytes))) (Either (Either (SharedFails bytes) (RendererStateFails bytes)) (Either (FmFails bytes) (PsgFails bytes)))) (sym ec) (
    joined (KeepsBoth (IsShared recording bytes) (IsPicture bytes)) (KeepsBoth (IsFm bytes) (IsPsg bytes)) (Either (SharedFails bytes) (RendererStateFails bytes)) (Either (FmFails bytes) (PsgFails bytes)) board sound
    (subst (Reads (KeepsBoth (IsShared recording bytes) (IsPicture bytes)) (Either (SharedFails bytes) (RendererStateFails bytes))) (sym eb) (joined (IsShared recording bytes) (IsPicture bytes) (SharedFails bytes) (RendererStateFails bytes) b d rb rd))
    (subst (Reads (KeepsBoth (IsFm bytes) (IsPsg bytes)) (Either (FmFails bytes) (PsgFails bytes))) (sym es) (joined (IsFm bytes) (IsPsg bytes) (FmFails bytes) (PsgFails bytes) f p rf rp)))

pub pieces_read : (cart : List ℕ) (recording : Recorded) (bytes : List ℕ) (processors : Result (Chip68Value × Chip80Value) Unspell) (chips : Result ((Board × RendererState) × (fm_synths.Synth × psg_synths.Synth)) Unspell) (all : Result Pieces Unspell)
    → all ≡ both processors chips → Reads (KeepsBoth (IsMain cart bytes) (IsSub cart bytes)) (Either (MainFails cart bytes) (SubFails cart bytes)) processors → Reads (KeepsBoth (KeepsBoth (IsShared recording bytes) (IsPicture bytes)) (KeepsBoth (IsFm bytes) (IsPsg bytes))) (Either (Either (SharedFails bytes) (RendererStateFails bytes)) (Either (FmFails bytes) (PsgFails bytes))) chips → Reads (KeepsPieces cart recording bytes) (Fails cart bytes) all
pieces_read cart recording bytes processors chips all e rp rc =
    subst (Reads (KeepsPieces cart recording bytes) (Fails cart bytes)) (sym e) (joined (KeepsBoth (IsMain cart bytes) (IsSub cart bytes)) (KeepsBoth (KeepsBoth (IsShared recording bytes) (IsPicture bytes)) (KeepsBoth (IsFm bytes) (IsPsg bytes))) (Either (MainFails cart bytes) (SubFails cart bytes)) (Either (Either (SharedFails bytes) (RendererStateFails bytes)) (Either (FmFails bytes) (PsgFails bytes))) processors chips rp rc)

-- ---- what fails

abbrev pub IsAtRight : List ℕ → Type 0
IsAtRight bytes = ((1 ≤ at_of bytes) × (at_of bytes ≤ last_cycle)) × (slice_index bytes 48 ≤ 1)

to_fails : (cart bytes : List ℕ) (p : ℕ) → Fails cart bytes p → FailsAt cart bytes p
to_fails cart bytes p w =
    elim w [
      | inl q ↦ (elim q [ inl r ↦ main_is_invalid r | inr r ↦ sub_is_invalid r ])
      | inr q ↦ (elim q [ inl r ↦ (elim r [ inl s ↦ shared_is_invalid s | inr s ↦ renderer_state_is_invalid s ]) | inr r ↦ (elim r [ inl s ↦ fm_is_invalid s | inr s ↦ psg_is_invalid s ]) ])
    ]

from_fails : (cart bytes : List ℕ) (p : ℕ) → IsAtRight bytes → FailsAt cart bytes p → Fails cart bytes p
from_fails cart bytes p right (at_is_invalid e h) = absurd (h right.0)
from_fails cart bytes p right (region_is_invalid e h) = absurd (h right.1)
from_fails cart bytes p right (main_is_invalid h) = inl (inl h)
from_fails cart bytes p right (sub_is_invalid h) = inl (inr h)
from_fails cart bytes p right (shared_is_invalid h) = inr (inl (inl h))
from_fails cart bytes p right (renderer_state_is_invalid h) = inr (inl (inr h))
from_fails cart bytes p right (fm_is_invalid h) = inr (inr (inl h))
from_fails cart bytes p right (psg_is_invalid h) = inr (inr (inr h))

-- ---- the machine of the items

pieces_of : MachineValue → Pieces
pieces_of m = ((record { cart = m.console.cart; state = m.console.main }, m.console.sub), ((m.console.shared, renderer_state_in m.console), (m.console.fm, m.console.psg)))

kept_of : (cart : List ℕ) (recording : Recorded) (bytes : List ℕ) (m : MachineValue) → IsMachineOf cart recording bytes m → KeepsPieces cart recording bytes (pieces_of m)
unfolding pieces_of
kept_of cart recording bytes m is = ((is.main, is.sub), ((is.shared, is.renderer_state), (is.fm, is.psg)))

-- a renderer that is drained is the one in the machine
again : (at : ℕ) (t : Pieces) → renderer_state.IsDrained t.1.0.1 → t.1.0.1 ≡ renderer_state_in (built at t).console
again at t is = λ i. record { next = t.1.0.1.next; note = t.1.0.1.note; has_view = is.view i; picture = t.1.0.1.picture; frame = is.frame i; pal = t.1.0.1.pal }

machine_is : (cart : List ℕ) (recording : Recorded) (bytes : List ℕ) (at : ℕ) (t : Pieces) → at ≡ at_of bytes → IsAtRight bytes → KeepsPieces cart recording bytes t → IsMachineOf cart recording bytes (built at t)
machine_is cart recording bytes at t e right k = record {
  at = e;
  begun = omega (arith, e, right.0.0);
  near = omega (arith, e, right.0.1);
  region = right.1;
  main = k.0.0;
  sub = k.0.1;
  shared = k.1.0.0;
  renderer_state = subst (IsPicture bytes) (again at t k.1.0.1.drained) k.1.0.1;
  fm_cycle = refl;
  psg_cycle = refl;
  fm = k.1.1.0;
  psg = k.1.1.1;
  entries = refl;
  media = refl;
}

one_machine : (cart : List ℕ) (recording : Recorded) (bytes : List ℕ) (at : ℕ) (t : Pieces) (m : MachineValue) → at ≡ at_of bytes → IsMachineOf cart recording bytes m → t ≡ pieces_of m → built at t ≡ m
unfolding pieces_of
one_machine cart recording bytes at t m e is same =
    let when : at ≡ m.at = e ∙ sym is.at in
    let fm_batch : first_batch at ≡ m.console.fm_cycle = ap first_batch when ∙ sym is.fm_cycle in
    let psg_batch : first_batch at ≡ m.console.psg_cycle = ap first_batch when ∙ sym is.psg_cycle in
    λ i. record {
      at = when i;
      console = record {
        cart = (same i).0.0.cart;
        main = (same i).0.0.state;
        sub = (same i).0.1;
        note = (same i).1.0.1.note;
        picture = (same i).1.0.1.picture;
        pal = (same i).1.0.1.pal;
        line = (same i).1.0.1.next;
        fm_cycle = fm_batch i;
        psg_cycle = psg_batch i;
        fm = (same i).1.1.0;
        psg = (same i).1.1.1;
        shared = (same i).1.0.0;
      };
      entries = sym is.entries i;
      media = sym is.media i;
    }

-- ---- what is answered

pub machine_refused : (cart : List ℕ) (recording : Recorded) (bytes : List ℕ) (all : Result Pieces Unspell) (fault : Unspell) → IsAtRight bytes → all ≡ failed fault → Reads (KeepsPieces cart recording bytes) (Fails cart bytes) all → Reads (IsMachineOf cart recording bytes) (FailsAt cart bytes) (failed fault)
machine_refused cart recording bytes all fault right e r = record {
  found = tt;
  only = λ m is n. (
      let ok : all ≡ fine {T = Pieces} (pieces_of m) = r.only (pieces_of m) (kept_of cart recording bytes m is) (λ w. n (same_fault all fault e w)) in
      absurd cc);
  none = tt;
  least = λ p w. (
      let first = r.least p (e ∙ moved fault p w) in
      record { fails = to_fails cart bytes p first.fails; least = λ q fails. first.least q (from_fails cart bytes q right fails) });
} where
  same_fault : (all : Result Pieces Unspell) (fault : Unspell) → all ≡ failed fault → all ≡ failed NoMemory → failed {T = MachineValue} fault ≡ failed NoMemory
  same_fault all fault e w =
      let f : failed {T = Pieces} fault ≡ failed NoMemory = sym e ∙ w in
      let g : fault ≡ NoMemory = cc in
      ap (λ (x : Unspell). failed {T = MachineValue} x) g

  moved : (fault : Unspell) (p : ℕ) → failed {T = MachineValue} fault ≡ failed (Rule p) → failed {T = Pieces} fault ≡ failed (Rule p)
  moved fault p w =
      let g : fault ≡ Rule p = cc in
      ap (λ (x : Unspell). failed {T = Pieces} x) g

pub machine_read : (cart : List ℕ) (recording : Recorded) (bytes : List ℕ) (at : ℕ) (t : Pieces) (m : MachineValue) (all : Result Pieces Unspell) → at ≡ at_of bytes → IsAtRight bytes → all ≡ fine t → m ≡ built at t → Reads (KeepsPieces cart recording bytes) (Fails cart bytes) all → Reads {T = MachineValue} (IsMachineOf cart recording bytes) (FailsAt cart bytes) (fine m)
machine_read cart recording bytes at t m all ea right e made r0 =
    let r : Reads {T = Pieces} (KeepsPieces cart recording bytes) (Fails cart bytes) (fine t) = subst (Reads (KeepsPieces cart recording bytes) (Fails cart bytes)) e r0 in
    record {
      found = subst (IsMachineOf cart recording bytes) (sym made) (machine_is cart recording bytes at t ea right r.found);
      only = λ x is n. (
          let ok : fine {T = Pieces} t ≡ fine (pieces_of x) = r.only (pieces_of x) (kept_of cart recording bytes x is) (λ w. cc) in
          let same : t ≡ pieces_of x = cc in
          ap (λ (y : MachineValue). fine y) (made ∙ one_machine cart recording bytes at t x ea is same));
      none = λ p fails. r.none p (from_fails cart bytes p right fails);
      least = λ p w. absurd cc;
    }

-- ---- no event of the machine is below its cycle

main_soon : (cart : List ℕ) (at : ℕ) (bytes : List ℕ) (state : State68) → main.Spells cart at bytes state → at ≤ state.next
unfolding AllHold
main_soon cart at bytes state s =
    let h = rules_hold 0 (saved68.chip_fields cart at (numbers_of state)) s.right in
    leb-true at state.next (and_parts (leb at state.next) _ h.0).0

sub_soon : (cart : List ℕ) (at : ℕ) (bytes : List ℕ) (state : State80) → sub.Spells cart at bytes state → at ≤ state.next
unfolding AllHold
sub_soon cart at bytes state s =
    let h = rules_hold 0 (saved80.chip_fields cart at (saved80.kept_of state)) s.right in
    leb-true at state.next (and_parts (leb at state.next) _ h.0).0

pub next_68 : (cart : List ℕ) (at : ℕ) (bytes : List ℕ) (state : State68) → main.Spells cart at bytes state → at ≤ (next_of state).key.cycle
unfolding next_of
next_68 cart at bytes state s = main_soon cart at bytes state s

pub next_80 : (cart : List ℕ) (at : ℕ) (bytes : List ℕ) (state : State80) → sub.Spells cart at bytes state → at ≤ (sub_next_of state).key.cycle
unfolding sub_next_of
next_80 cart at bytes state s = sub_soon cart at bytes state s

pub is_first : (at : ℕ) (pal : Bool) (bytes : List ℕ) (d : RendererState) → renderer_state.Spells at pal bytes d → (at ≤ d.next) × (d.next ≡ first_line at)
unfolding AllHold
is_first at pal bytes d s =
    let h = rules_hold 0 (saved_renderer_state.renderer_state_fields at pal (saved_renderer_state.numbers_of d)) s.right in
    let a = and_parts (eqb (d.next % clock.line) 0) _ h.0 in
    let b = and_parts (leb at d.next) (ltb (d.next - at) clock.line) a.1 in
    let whole : d.next % clock.line ≡ 0 = eqb-true _ _ a.0 in
    let from : at ≤ d.next = leb-true _ _ b.0 in
    let near : d.next - at < clock.line = ltb-true _ _ b.1 in
    (from, line_is at d.next whole from near) where
      line_is : (at next : ℕ) → next % clock.line ≡ 0 → at ≤ next → next - at < clock.line → next ≡ clock.line * ((at + 3419) / clock.line)
      line_is at next whole from near = omega arith

late_batch : (at : ℕ) → 1 ≤ at → at ≤ first_batch at
late_batch at some = omega arith

quiet : (at : ℕ) (m : Console) → at ≤ m.main.next → at ≤ m.sub.state.next → at ≤ m.line → at ≤ m.fm_cycle → at ≤ m.psg_cycle → IsQuiet at m
unfolding key_in next_of sub_next_of
quiet at m a b c d e zero lt = a
quiet at m a b c d e (suc zero) lt = b
quiet at m a b c d e (suc (suc zero)) lt = c
quiet at m a b c d e (suc (suc (suc zero))) lt = d
quiet at m a b c d e (suc (suc (suc (suc zero)))) lt = e
quiet at m a b c d e (suc (suc (suc (suc (suc i))))) lt = absurd (omega (arith, lt))

pub start_there : (cart : List ℕ) (recording : Recorded) (bytes : List ℕ) (m : MachineValue) → IsMachineOf cart recording bytes m → IsStart (record { at = m.at; console = m.console })
start_there cart recording bytes m is =
    let main_at = main_soon cart (at_of bytes) _ m.console.main is.main.spells in
    let sub_at = sub_soon cart (at_of bytes) _ m.console.sub.state is.sub.spells in
    let line_at = is_first (at_of bytes) (region_of bytes) _ (renderer_state_in m.console) is.renderer_state in
    let batch = late_batch m.at is.begun in
    record {
      quiet = quiet m.at m.console (omega (arith, main_at, is.at)) (omega (arith, sub_at, is.at)) (omega (arith, line_at.0, is.at)) (omega (arith, batch, is.fm_cycle)) (omega (arith, batch, is.psg_cycle));
      line = line_at.1 ∙ ap first_line (sym is.at);
      fm = is.fm_cycle;
      psg = is.psg_cycle;
    }

-- ---- a wrong cycle is refused before all else, and then a wrong region

from_49 : (parts : List Part) (Invalid : ℕ → Type 0) (p : ℕ) → are_ordered 49 parts ≡ true → 1 ≤ length parts → FailsIn parts Invalid p → 48 ≤ p
from_49 [] Invalid p ordered some w = absurd (omega (arith, some))
from_49 (q ∷ ps) Invalid p ordered some w = omega (arith, w.1, from_first q ps 49 w.0 ordered)

sub_after : (has : Bool) → are_ordered 49 (sub_parts has) ≡ true
sub_after true = refl
sub_after false = refl

sub_some : (has : Bool) → 1 ≤ length (sub_parts has)
sub_some true = omega arith
sub_some false = omega arith

shared_after : (has : Bool) → are_ordered 49 (shared_parts has) ≡ true
shared_after true = refl
shared_after false = refl

shared_some : (has : Bool) → 1 ≤ length (shared_parts has)
shared_some true = omega arith
shared_some false = omega arith

in_sub : (cart bytes : List ℕ) (p : ℕ) → SubFails cart bytes p → 48 ≤ p
in_sub cart bytes p (chip_fails h) = from_49 (sub_parts (holder_in bytes == 0)) (sub.InvalidAt cart (at_of bytes) (sub_bytes bytes)) p (sub_after (holder_in bytes == 0)) (sub_some (holder_in bytes == 0)) h
in_sub cart bytes p (holder_fails e h) = omega (arith, e)

in_shared : (bytes : List ℕ) (p : ℕ) → SharedFails bytes p → 48 ≤ p
in_shared bytes p (board_fails h) = from_49 (shared_parts (holder_in bytes == 1)) (shared.InvalidAt (at_of bytes) (region_of bytes) (shared_bytes bytes)) p (shared_after (holder_in bytes == 1)) (shared_some (holder_in bytes == 1)) h
in_shared bytes p (resets_fail e h) = omega (arith, e)

in_fm : (bytes : List ℕ) (p : ℕ) → FmFails bytes p → 48 ≤ p
in_fm bytes p (synth_fails h) = from_49 (fm_part ∷ []) (fm.SynthInvalidAt (part_of fm_part bytes)) p refl (omega arith) h
in_fm bytes p (next_fails e h) = omega (arith, e)
in_fm bytes p (writes_fail e h) = omega (arith, e)

in_psg : (bytes : List ℕ) (p : ℕ) → PsgFails bytes p → 48 ≤ p
in_psg bytes p (psg_synth_fails h) = from_49 (psg_part ∷ []) (psg.SynthInvalidAt (part_of psg_part bytes)) p refl (omega arith) h
in_psg bytes p (psg_next_fails e h) = omega (arith, e)
in_psg bytes p (psg_writes_fail e h) = omega (arith, e)

from_48 : (cart bytes : List ℕ) (p : ℕ) → (1 ≤ at_of bytes) × (at_of bytes ≤ last_cycle) → FailsAt cart bytes p → 48 ≤ p
from_48 cart bytes p right (at_is_invalid e h) = absurd (h right)
from_48 cart bytes p right (region_is_invalid e h) = omega (arith, e)
from_48 cart bytes p right (main_is_invalid h) = from_49 (main_part ∷ []) (main.InvalidAt cart (at_of bytes) (main_bytes bytes)) p refl (omega arith) h
from_48 cart bytes p right (sub_is_invalid h) = in_sub cart bytes p h
from_48 cart bytes p right (shared_is_invalid h) = in_shared bytes p h
from_48 cart bytes p right (renderer_state_is_invalid h) = from_49 (renderer_state_part ∷ []) (renderer_state.InvalidAt (at_of bytes) (region_of bytes) (renderer_state_bytes bytes)) p refl (omega arith) h
from_48 cart bytes p right (fm_is_invalid h) = in_fm bytes p h
from_48 cart bytes p right (psg_is_invalid h) = in_psg bytes p h

-- and no offset is before the cycle
from_40 : (cart bytes : List ℕ) (p : ℕ) → FailsAt cart bytes p → 40 ≤ p
from_40 cart bytes p (at_is_invalid e h) = omega (arith, e)
from_40 cart bytes p (region_is_invalid e h) = omega (arith, e)
from_40 cart bytes p (main_is_invalid h) = omega (arith, from_49 (main_part ∷ []) (main.InvalidAt cart (at_of bytes) (main_bytes bytes)) p refl (omega arith) h)
from_40 cart bytes p (sub_is_invalid h) = omega (arith, in_sub cart bytes p h)
from_40 cart bytes p (shared_is_invalid h) = omega (arith, in_shared bytes p h)
from_40 cart bytes p (renderer_state_is_invalid h) = omega (arith, from_49 (renderer_state_part ∷ []) (renderer_state.InvalidAt (at_of bytes) (region_of bytes) (renderer_state_bytes bytes)) p refl (omega arith) h)
from_40 cart bytes p (fm_is_invalid h) = omega (arith, in_fm bytes p h)
from_40 cart bytes p (psg_is_invalid h) = omega (arith, in_psg bytes p h)

abbrev pub IsCycle : List ℕ → Type 0
IsCycle bytes = (1 ≤ at_of bytes) × (at_of bytes ≤ last_cycle)

pub at_refused : (cart : List ℕ) (recording : Recorded) (bytes : List ℕ) → ¬ IsCycle bytes → Reads {T = MachineValue} (IsMachineOf cart recording bytes) (FailsAt cart bytes) (failed (Rule 40))
at_refused cart recording bytes invalid = record {
  found = tt;
  only = λ m is n. absurd (invalid (omega (arith, is.at, is.begun), omega (arith, is.at, is.near)));
  none = tt;
  least = λ p e. (
      let same : 40 ≡ p = here p e in
      record { fails = at_is_invalid (sym same) invalid; least = λ q fails. omega (arith, same, from_40 cart bytes q fails) });
} where
  here : (p : ℕ) → failed {T = MachineValue} (Rule 40) ≡ failed (Rule p) → 40 ≡ p
  here p e = cc

-- a wrong region is refused before all else but the cycle
pub region_refused : (cart : List ℕ) (recording : Recorded) (bytes : List ℕ) → IsCycle bytes → ¬ (slice_index bytes 48 ≤ 1)
    → Reads {T = MachineValue} (IsMachineOf cart recording bytes) (FailsAt cart bytes) (failed (Rule 48))
region_refused cart recording bytes right invalid = record {
  found = tt;
  only = λ m is n. absurd (invalid is.region);
  none = tt;
  least = λ p e. (
      let same : 48 ≡ p = here p e in
      record { fails = region_is_invalid (sym same) invalid; least = λ q fails. omega (arith, same, from_48 cart bytes q right fails) });
} where
  here : (p : ℕ) → failed {T = MachineValue} (Rule 48) ≡ failed (Rule p) → 48 ≡ p
  here p e = cc

pub invalid_at : (bytes : List ℕ) (at : ℕ) → at ≡ at_of bytes → (at < 1) ⊎ (last_cycle < at) → ¬ IsCycle bytes
invalid_at bytes at e (inl low) right = omega (arith, e, low, right.0)
invalid_at bytes at e (inr high) right = omega (arith, e, high, right.1)

pub right_cycle : (bytes : List ℕ) (at : ℕ) → at ≡ at_of bytes → 1 ≤ at → at ≤ last_cycle → IsCycle bytes
right_cycle bytes at e low high = (omega (arith, e, low), omega (arith, e, high))

pub invalid_region : (bytes : List ℕ) (region : ℕ) → region ≡ slice_index bytes 48 → 1 < region → ¬ (slice_index bytes 48 ≤ 1)
invalid_region bytes region e high right = omega (arith, e, high, right)

pub right_at : (bytes : List ℕ) (at region : ℕ) → at ≡ at_of bytes → 1 ≤ at → at ≤ last_cycle → region ≡ slice_index bytes 48 → region ≤ 1 → IsAtRight bytes
right_at bytes at region e low high f few = (right_cycle bytes at e low high, omega (arith, f, few))

-- the two halves of the VDP are of the state's region
pub one_region : (cart : List ℕ) (recording : Recorded) (bytes : List ℕ) (t : Pieces) → KeepsPieces cart recording bytes t → t.1.0.1.pal ≡ t.1.0.0.vdp.pal
one_region cart recording bytes t k = k.1.0.1.region ∙ sym k.1.0.0.spells.vdp.region
