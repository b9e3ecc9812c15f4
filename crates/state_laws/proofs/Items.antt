-- Each item of a state is kept by its bytes, or fails at a least offset, once it is known what the chips' bytes
-- are.
use Rattle.std.proofs.Common.{◌≡◌, ◌≢◌, ◌⊎◌, inl, inr, ℕ, leb, eqb, Bool, true, false, ◌==◌, List, [], ◌∷◌, refl, sym, ◌∙◌, Result, Ok, Err}
use Rattle.std.specs.Int.{w64}
use Rattle.md_fields.specs.Places.{number_at}
use Rattle.md_fields.proofs.Refusals.{failed}
use Rattle.md_word.specs.declared.unspell.Unspell.{Unspell}
use Rattle.md_word.specs.declared.unspell.Unspell.TheVariants.{NoMemory, Rule}
use Rattle.md_pads.specs.Recording.{Recorded}
use Rattle.m68k_chip.specs.Spelling as main
use Rattle.m68k_chip.specs.Validity.{Chip68Value}
use Rattle.m68k_chip.proofs.SavedLaws.{table as main_table}
use Rattle.m68k_chip.proofs.SpellingLaws as main_laws
use Rattle.z80_chip.specs.Saved.{kept_of}
use Rattle.z80_chip.specs.Spelling as sub
use Rattle.z80_chip.specs.States.{State80}
use Rattle.z80_chip.specs.Validity.{Chip80Value}
use Rattle.z80_chip.proofs.SpellingLaws as sub_laws
use Rattle.vdp_chip.specs.Saved.{numbers_of}
use Rattle.vdp_chip.specs.Spelling as renderer_state
use Rattle.vdp_chip.proofs.SavedLaws as renderer_state_laws
use Rattle.vdp_chip.proofs.SavedLaws.{table as renderer_state_table}
use Rattle.fm_chip.specs.SynthSpelling as fm
use Rattle.md_fields.proofs.Values.{not_refused, refused_once, spelled_once}
use Rattle.fm_chip.proofs.SynthBytes as fm_laws
use Rattle.fm_chip.proofs.SynthBytes.{table as fm_table}
use Rattle.psg_sound.specs.SynthSpelling as psg
use Rattle.psg_sound.proofs.SynthBytes as psg_laws
use Rattle.psg_sound.proofs.SynthBytes.{table as psg_table}
use Rattle.bus_shared.specs.Spelling as shared
use Rattle.bus_shared.proofs.SpellingLaws as shared_laws
use Rattle.md_chips.specs.Starts.{first_batch}
use Rattle.save_state.specs.declared.layout.Part.{Part}
use Rattle.save_state.specs.Items.{at_of, region_of, holder_in, stage_of, seen_resets, resets_of, resets_place, fm_writes_place, main_bytes, sub_bytes, shared_bytes, renderer_state_bytes, IsMain, MainFails, IsSub, SubFails, IsShared, SharedFails, IsPicture, RendererStateFails, HasLateFm, IsFm, FmFails, HasLatePsg, IsPsg, PsgFails}
use Rattle.save_state.specs.Joining.{Either, KeepsBoth, Reads, both, placed, with_rule}
use Rattle.save_state.specs.Layout.{main_part, holder_part, renderer_state_part, fm_part, fm_next_part, psg_part, psg_next_part, psg_port_part, part_of, sub_parts, shared_parts}
use Rattle.save_state.specs.States.{is_holder}
use Rattle.save_state.proofs.ItemLaws.{main_read, sub_read, shared_read, renderer_state_read, fm_read, psg_read}
use Rattle.save_state.proofs.Joins.{joined}
use Rattle.state_laws.proofs.Chips.{BoardKept}
use Rattle.state_laws.proofs.Deciding.{Decided, Verdict, decided_by}

-- the answer of a reader that needs no memory
pub record Answered {T : Type 0} (Keeps : T → Type 0) (Fails : ℕ → Type 0) : Type 0 where
  pub answer : Result T Unspell
  pub reads : Reads Keeps Fails answer
  pub memory : answer ≢ failed NoMemory

-- no step on the way wants it
placed_memory : {T : Type 0} (parts : List Part) (answer : Result T Unspell) → answer ≢ failed NoMemory → placed parts answer ≢ failed NoMemory
placed_memory parts (Ok x) n e = cc
placed_memory parts (Err (Rule place)) n e = cc
placed_memory parts (Err NoMemory) n e = n refl

ruled_memory : {T : Type 0} (answer : Result T Unspell) (holds : Bool) (place : ℕ) → answer ≢ failed NoMemory → with_rule answer holds place ≢ failed NoMemory
ruled_memory (Ok x) true place n e = n e
ruled_memory (Err fault) true place n e = n e
ruled_memory (Ok x) false place n e = cc
ruled_memory (Err (Rule other)) false place n e = cc
ruled_memory (Err NoMemory) false place n e = n refl

both_memory : {A B : Type 0} (first : Result A Unspell) (second : Result B Unspell) → first ≢ failed NoMemory → second ≢ failed NoMemory → both first second ≢ failed NoMemory
both_memory (Ok a) (Ok b) n m e = cc
both_memory (Ok a) (Err (Rule place)) n m e = cc
both_memory (Ok a) (Err NoMemory) n m e = m refl
both_memory (Err (Rule place)) (Ok b) n m e = cc
both_memory (Err (Rule place)) (Err (Rule other)) n m e = cc
both_memory (Err (Rule place)) (Err NoMemory) n m e = m refl
both_memory (Err NoMemory) second n m e = n refl

pub two : {A B : Type 0} (K : A → Type 0) (L : B → Type 0) (F G : ℕ → Type 0) → Answered K F → Answered L G → Answered (KeepsBoth K L) (Either F G)
two {A} {B} K L F G first second = record {
  answer = both first.answer second.answer;
  reads = joined {A = A} {B = B} K L F G first.answer second.answer first.reads second.reads;
  memory = both_memory {A = A} {B = B} first.answer second.answer first.memory second.memory;
}

-- ---- the processors

abbrev MainKept : List ℕ → ℕ → List ℕ → Chip68Value → Type 0
MainKept cart at bytes chip = (chip.cart ≡ cart) × main.Spells cart at bytes chip.state

main_decided : (cart : List ℕ) (at : ℕ) (bytes : List ℕ) → Verdict (main.Spells cart at bytes) (main.InvalidAt cart at bytes) → Decided (MainKept cart at bytes) (main.InvalidAt cart at bytes)
main_decided cart at bytes v =
    decided_by (MainKept cart at bytes) (main.InvalidAt cart at bytes)
    (λ x y k l. (let state = main_laws.no_other cart at bytes x.state y.state k.1 l.1 in λ i. record { cart = (k.0 ∙ sym l.0) i; state = state i }))
    (λ x k place invalid. main_laws.right_not_refused cart at bytes x.state place k.1 invalid)
    (refused_once (main_table cart at) bytes)
    (elim v [ inl k ↦ inl (record { cart = cart; state = k.0 }, (refl, k.1)) | inr w ↦ inr w ])

pub main_answered : (cart bytes : List ℕ) → Verdict (main.Spells cart (at_of bytes) (main_bytes bytes)) (main.InvalidAt cart (at_of bytes) (main_bytes bytes)) → Answered (IsMain cart bytes) (MainFails cart bytes)
main_answered cart bytes v =
    let d = main_decided cart (at_of bytes) (main_bytes bytes) v in
    record {
      answer = placed (main_part ∷ []) d.answer;
      reads = main_read cart bytes (at_of bytes) (main_bytes bytes) d.answer (placed (main_part ∷ []) d.answer) refl refl refl d.found (λ state spells n. d.only (record { cart = cart; state = state }) (refl, spells)) d.rule d.invalid;
      memory = placed_memory (main_part ∷ []) d.answer d.memory;
    }

abbrev SubKept : List ℕ → ℕ → List ℕ → Chip80Value → Type 0
SubKept cart at bytes chip = (chip.cart ≡ cart) × sub.Spells cart at bytes chip.state

sub_once : (cart : List ℕ) (at : ℕ) (bytes : List ℕ) (x y : State80) → sub.Spells cart at bytes x → sub.Spells cart at bytes y → x ≡ y
sub_once cart at bytes x y p q = sym (sub_laws.no_other cart at bytes (kept_of x) x p.keeps p) ∙ sub_laws.no_other cart at bytes (kept_of x) y p.keeps q

sub_decided : (cart : List ℕ) (at : ℕ) (bytes : List ℕ) → Verdict (sub.Spells cart at bytes) (sub.InvalidAt cart at bytes) → Decided (SubKept cart at bytes) (sub.InvalidAt cart at bytes)
sub_decided cart at bytes v =
    decided_by (SubKept cart at bytes) (sub.InvalidAt cart at bytes)
    (λ x y k l. (let state = sub_once cart at bytes x.state y.state k.1 l.1 in λ i. record { cart = (k.0 ∙ sym l.0) i; state = state i }))
    (λ x k place invalid. sub_laws.right_not_refused cart at bytes (kept_of x.state) place k.1.keeps k.1.right invalid)
    (sub_laws.only_place cart at bytes)
    (elim v [ inl k ↦ inl (record { cart = cart; state = k.0 }, (refl, k.1)) | inr w ↦ inr w ])

pub sub_answered : (cart bytes : List ℕ) → Verdict (sub.Spells cart (at_of bytes) (sub_bytes bytes)) (sub.InvalidAt cart (at_of bytes) (sub_bytes bytes)) → Answered (IsSub cart bytes) (SubFails cart bytes)
sub_answered cart bytes v =
    let d = sub_decided cart (at_of bytes) (sub_bytes bytes) v in
    let parts : List Part = sub_parts (holder_in bytes == 0) in
    let holds : Bool = is_holder (holder_in bytes) (stage_of bytes) in
    record {
      answer = with_rule (placed parts d.answer) holds holder_part.place;
      reads = sub_read cart bytes (at_of bytes) parts (sub_bytes bytes) (holder_in bytes == 0) holds d.answer (placed parts d.answer) (with_rule (placed parts d.answer) holds holder_part.place) refl refl refl refl refl refl refl
          d.found (λ state spells n. d.only (record { cart = cart; state = state }) (refl, spells)) d.rule (λ place invalid n. d.invalid place invalid);
      memory = ruled_memory (placed parts d.answer) holds holder_part.place (placed_memory parts d.answer d.memory);
    }

-- ---- the board and the VDP renderer

shared_decided : (recording : Recorded) (at : ℕ) (pal : Bool) (bytes : List ℕ) → Verdict (BoardKept recording at pal bytes) (shared.InvalidAt at pal bytes) → Decided (BoardKept recording at pal bytes) (shared.InvalidAt at pal bytes)
shared_decided recording at pal bytes v =
    decided_by (BoardKept recording at pal bytes) (shared.InvalidAt at pal bytes)
    (λ x y k l. shared_laws.spelled_once at pal bytes x y k.0 l.0 (k.1 ∙ sym l.1))
    (λ x k place invalid. shared_laws.right_nowhere at pal bytes x k.0 place invalid)
    (shared_laws.invalid_once at pal bytes) v

pub shared_answered : (recording : Recorded) (bytes : List ℕ) → Verdict (BoardKept recording (at_of bytes) (region_of bytes) (shared_bytes bytes)) (shared.InvalidAt (at_of bytes) (region_of bytes) (shared_bytes bytes)) → Answered (IsShared recording bytes) (SharedFails bytes)
shared_answered recording bytes v =
    let d = shared_decided recording (at_of bytes) (region_of bytes) (shared_bytes bytes) v in
    let parts : List Part = shared_parts (holder_in bytes == 1) in
    let holds : Bool = leb (seen_resets bytes) (resets_of bytes) in
    record {
      answer = with_rule (placed parts d.answer) holds resets_place;
      reads = shared_read recording bytes (region_of bytes) (at_of bytes) parts (shared_bytes bytes) (holder_in bytes == 1) (seen_resets bytes) (resets_of bytes) d.answer (placed parts d.answer) (with_rule (placed parts d.answer) holds resets_place) refl refl refl refl refl refl refl refl refl
          d.found (λ board spells pads n. d.only board (spells, pads)) d.rule (λ place invalid n. d.invalid place invalid);
      memory = ruled_memory (placed parts d.answer) holds resets_place (placed_memory parts d.answer d.memory);
    }

renderer_state_decided : (at : ℕ) (pal : Bool) (bytes : List ℕ) → Verdict (renderer_state.Spells at pal bytes) (renderer_state.InvalidAt at pal bytes) → Decided (renderer_state.Spells at pal bytes) (renderer_state.InvalidAt at pal bytes)
renderer_state_decided at pal bytes v =
    decided_by (renderer_state.Spells at pal bytes) (renderer_state.InvalidAt at pal bytes)
    (λ x y p q. sym (renderer_state_laws.no_other at pal bytes (numbers_of x) x p.keeps p) ∙ renderer_state_laws.no_other at pal bytes (numbers_of x) y p.keeps q)
    (λ x p place invalid. not_refused (renderer_state_table at pal) bytes (numbers_of x) p.keeps p.right place invalid)
    (refused_once (renderer_state_table at pal) bytes) v

pub renderer_state_answered : (bytes : List ℕ) → Verdict (renderer_state.Spells (at_of bytes) (region_of bytes) (renderer_state_bytes bytes)) (renderer_state.InvalidAt (at_of bytes) (region_of bytes) (renderer_state_bytes bytes)) → Answered (IsPicture bytes) (RendererStateFails bytes)
renderer_state_answered bytes v =
    let d = renderer_state_decided (at_of bytes) (region_of bytes) (renderer_state_bytes bytes) v in
    record {
      answer = placed (renderer_state_part ∷ []) d.answer;
      reads = renderer_state_read bytes (region_of bytes) (at_of bytes) (renderer_state_bytes bytes) d.answer (placed (renderer_state_part ∷ []) d.answer) refl refl refl refl d.found (λ x spells n. d.only x spells) d.rule d.invalid;
      memory = placed_memory (renderer_state_part ∷ []) d.answer d.memory;
    }

-- ---- the sound chips

-- whether no write is late
early_of : {Late : Type 0} → Late ⊎ (Late → ⊥) → (early : Bool) × ((early ≡ false → Late) × (Late → early ≡ false))
early_of (inl late) = (false, (λ e. late, λ l. refl))
early_of (inr none) = (true, (λ e. absurd cc, λ l. absurd (none l)))

fm_decided : (bytes : List ℕ) → Verdict (fm.SpellsSynth bytes) (fm.SynthInvalidAt bytes) → Decided (fm.SpellsSynth bytes) (fm.SynthInvalidAt bytes)
fm_decided bytes v =
    decided_by (fm.SpellsSynth bytes) (fm.SynthInvalidAt bytes)
    (λ x y p q. spelled_once fm_table fm.saved_synth_of fm.synth_from bytes x y (fm_laws.synth_again x p.synth) (fm_laws.synth_again y q.synth) p.keeps q.keeps)
    (λ x p. not_refused fm_table bytes (fm.saved_synth_of x) p.keeps p.right)
    (refused_once fm_table bytes) v

pub fm_answered : (bytes : List ℕ) → Verdict (fm.SpellsSynth (part_of fm_part bytes)) (fm.SynthInvalidAt (part_of fm_part bytes)) → HasLateFm bytes ⊎ (HasLateFm bytes → ⊥) → Answered (IsFm bytes) (FmFails bytes)
fm_answered bytes v late =
    let d = fm_decided (part_of fm_part bytes) v in
    let early = early_of late in
    let next : ℕ = number_at w64 fm_next_part.place bytes in
    let batch : ℕ = first_batch (at_of bytes) in
    let synth = placed (fm_part ∷ []) d.answer in
    let timed = with_rule synth (eqb next batch) fm_next_part.place in
    record {
      answer = with_rule timed early.0 fm_writes_place;
      reads = fm_read bytes (at_of bytes) (part_of fm_part bytes) next batch early.0 d.answer synth timed (with_rule timed early.0 fm_writes_place) refl refl refl refl refl refl refl early.1.0 early.1.1
          d.found d.only d.rule d.invalid;
      memory = ruled_memory timed early.0 fm_writes_place (ruled_memory synth (eqb next batch) fm_next_part.place (placed_memory (fm_part ∷ []) d.answer d.memory));
    }

psg_decided : (bytes : List ℕ) → Verdict (psg.SpellsSynth bytes) (psg.SynthInvalidAt bytes) → Decided (psg.SpellsSynth bytes) (psg.SynthInvalidAt bytes)
psg_decided bytes v =
    decided_by (psg.SpellsSynth bytes) (psg.SynthInvalidAt bytes)
    (λ x y p q. spelled_once psg_table psg.saved_synth_of psg.synth_from bytes x y (psg_laws.synth_again x) (psg_laws.synth_again y) p.keeps q.keeps)
    (λ x p. not_refused psg_table bytes (psg.saved_synth_of x) p.keeps p.right)
    (refused_once psg_table bytes) v

pub psg_answered : (bytes : List ℕ) → Verdict (psg.SpellsSynth (part_of psg_part bytes)) (psg.SynthInvalidAt (part_of psg_part bytes)) → HasLatePsg bytes ⊎ (HasLatePsg bytes → ⊥) → Answered (IsPsg bytes) (PsgFails bytes)
psg_answered bytes v late =
    let d = psg_decided (part_of psg_part bytes) v in
    let early = early_of late in
    let next : ℕ = number_at w64 psg_next_part.place bytes in
    let batch : ℕ = first_batch (at_of bytes) in
    let synth = placed (psg_part ∷ []) d.answer in
    let timed = with_rule synth (eqb next batch) psg_next_part.place in
    record {
      answer = with_rule timed early.0 psg_port_part.place;
      reads = psg_read bytes (at_of bytes) (part_of psg_part bytes) next batch early.0 d.answer synth timed (with_rule timed early.0 psg_port_part.place) refl refl refl refl refl refl refl early.1.0 early.1.1
          d.found d.only d.rule d.invalid;
      memory = ruled_memory timed early.0 psg_port_part.place (ruled_memory synth (eqb next batch) psg_next_part.place (placed_memory (psg_part ∷ []) d.answer d.memory));
    }
