-- Whatever bytes there are for a chip or the board, they keep one whose rules hold, or are invalid at an
-- offset.
use Rattle.std.proofs.Common.{◌≡◌, ◌⊎◌, inl, inr, ℕ, ◌+◌, Bool, true, false, List, length, take, drop, min, Option, Some, None, IfSome, refl, arith}
use Rattle.std.proofs.lemmas.Bool.{cases_eq, cases_lt}
use Rattle.std.proofs.lemmas.List.{length-take}
use Rattle.std.specs.Int.{w16}
use Rattle.md_fields.specs.Fields.{first_invalid}
use Rattle.md_fields.specs.Items.{IsRight, Keeps}
use Rattle.md_fields.specs.Places.{IsBytes, number_at}
use Rattle.md_fields.proofs.Standing.{IsBytes-drop, IsBytes-take}
use Rattle.md_fields.proofs.Values.{not_refused}
use Rattle.md_pads.specs.Recording.{Recorded}
use Rattle.m68k_chip.specs.Resuming.{asks_more as main_asks_more}
use Rattle.m68k_chip.specs.Numbers.{state_from as main_from}
use Rattle.m68k_chip.specs.Saved as saved68
use Rattle.m68k_chip.specs.Spelling as main
use Rattle.m68k_chip.proofs.SpellingLaws as main_laws
use Rattle.z80_chip.specs.Saved as saved80
use Rattle.z80_chip.specs.Spelling as sub
use Rattle.z80_chip.proofs.SpellingLaws as sub_laws
use Rattle.z80_parcel.specs.Parcels.{IsStore, Store, ram_size}
use Rattle.vdp_ports.specs.Numbers.{numbers_of, vdp_of}
use Rattle.vdp_ports.specs.Saved.{vdp_fields}
use Rattle.vdp_ports.specs.Spelling as video
use Rattle.vdp_ports.specs.Vdp.{Vdp}
use Rattle.vdp_ports.proofs.SavedLaws as video_laws
use Rattle.vdp_ports.proofs.SavedLaws.{table as video_table}
use Rattle.vdp_chip.specs.Saved as saved_renderer_state
use Rattle.vdp_chip.specs.Spelling as renderer_state
use Rattle.vdp_chip.proofs.SavedLaws as renderer_state_laws
use Rattle.fm_port.specs.Port.{Port}
use Rattle.fm_port.specs.PortSpelling as fm_port
use Rattle.fm_port.specs.declared.saved_port.SavedPort.{SavedPort as FmNumbers}
use Rattle.fm_port.proofs.PortBytes as fm_port_laws
use Rattle.fm_chip.specs.SynthSpelling as fm
use Rattle.fm_chip.proofs.SynthBytes as fm_laws
use Rattle.psg_sound.specs.PortSpelling as psg_port
use Rattle.psg_sound.specs.SynthSpelling as psg
use Rattle.psg_sound.specs.declared.write.PsgWrite.{PsgWrite}
use Rattle.psg_sound.proofs.PortBytes as psg_port_laws
use Rattle.psg_sound.proofs.SynthBytes as psg_laws
use Rattle.bus_shared.specs.Board.{Board}
use Rattle.bus_shared.specs.Saved.{board_from, lines_fields}
use Rattle.bus_shared.specs.Spelling as shared
use Rattle.bus_shared.specs.declared.saved_lines.SavedLines.{SavedLines}
use Rattle.bus_shared.proofs.SavedLaws.{table as lines_table}
use Rattle.bus_shared.proofs.SpellingLaws as shared_laws
use Rattle.state_laws.proofs.Numbers.{main_there, sub_there, video_there, renderer_state_there, fm_port_there, psg_there, lines_there}
use Rattle.state_laws.proofs.Deciding.{Verdict, fields_validated, sized}

-- ---- the processors

pub main_verdict : (cart : List ℕ) (at : ℕ) (bytes : List ℕ) → IsBytes bytes → Verdict (main.Spells cart at bytes) (main.InvalidAt cart at bytes)
main_verdict cart at bytes fits =
    sized main.chip_size (saved68.chip_fields cart at) (main.Spells cart at bytes) bytes fits
    (λ long. (let s = main_there bytes long in (s.0, s.1 at (main_asks_more cart (main_from s.0)))))
    (λ long n keeps right. (main_from n, main_laws.spelled_by cart at bytes n keeps right))

sub_read : (cart : List ℕ) (at : ℕ) (bytes : List ℕ) → IsBytes bytes → sub.IsLength bytes → Verdict (sub.Spells cart at bytes) (sub.InvalidAt cart at bytes)
sub_read cart at bytes fits long =
    let n = sub_there bytes in
    let k : saved80.Kept80 = record { numbers = n.0; store = sub.store_at bytes } in
    elim (fields_validated (saved80.chip_fields cart at) bytes k fits (sub_laws.stands_by at bytes n.0 long n.1 (saved80.asks_more cart k))) [
      | inl right ↦ inl (saved80.state_from n.0 (sub.store_at bytes), sub_laws.spelled_by cart at bytes k right.0 right.1)
      | inr invalid ↦ inr (invalid.0, inr invalid.1)
    ]

pub sub_verdict : (cart : List ℕ) (at : ℕ) (bytes : List ℕ) → IsBytes bytes → Verdict (sub.Spells cart at bytes) (sub.InvalidAt cart at bytes)
sub_verdict cart at bytes fits = elim (cases_eq (length bytes) (sub.spelled_size false)) [
  | inl short ↦ sub_read cart at bytes fits (inl short)
  | inr not_short ↦ (elim (cases_eq (length bytes) (sub.spelled_size true)) [
    | inl long ↦ sub_read cart at bytes fits (inr long)
    | inr not_long ↦ inr (min (length bytes) (sub.spelled_size true), inl (not_short, not_long, refl))
  ])
]

-- ---- the VDP

pub video_verdict : (at : ℕ) (pal : Bool) (bytes : List ℕ) → IsBytes bytes → Verdict (video.Spells at pal bytes) (video.InvalidAt at pal bytes)
video_verdict at pal bytes fits =
    sized video.vdp_size (vdp_fields at pal) (video.Spells at pal bytes) bytes fits
    (λ long. (let s = video_there bytes long in (s.0, s.1 at pal)))
    (λ long n keeps right. (vdp_of pal n, video_laws.read_spells at pal bytes n keeps right))

pub renderer_state_verdict : (at : ℕ) (pal : Bool) (bytes : List ℕ) → IsBytes bytes → Verdict (renderer_state.Spells at pal bytes) (renderer_state.InvalidAt at pal bytes)
renderer_state_verdict at pal bytes fits =
    sized renderer_state.renderer_state_size (saved_renderer_state.renderer_state_fields at pal) (renderer_state.Spells at pal bytes) bytes fits
    (λ long. (let s = renderer_state_there bytes long in (s.0, s.1 at pal)))
    (λ long n keeps right. (saved_renderer_state.renderer_state_of pal n, renderer_state_laws.read_spells at pal bytes n keeps right))

-- ---- the sound chips

fm_port_by : (at : ℕ) (bytes : List ℕ) (n : FmNumbers) → IsBytes bytes → length bytes ≡ fm_port.port_size → fm_port_laws.IsHead bytes n
    → (first : Option ℕ) → first_invalid 0 (fm_port.number_fields at n) ≡ first → (right : Bool) → fm_port.are_writes at (fm_port_laws.count_in bytes) (fm_port_laws.entries_in bytes) ≡ right
    → Verdict (fm_port.SpellsPort at bytes) (fm_port.PortInvalidAt at bytes)
fm_port_by at bytes n fits long head (Some place) e right f = inr (place, fm_port_laws.breaks_number at bytes n place fits long head e)
fm_port_by at bytes n fits long head None e true f =
    inl (fm_port.port_with n (fm_port.writes_from (fm_port_laws.count_in bytes) (fm_port_laws.entries_in bytes)), fm_port_laws.port_read at bytes n fits long head e f)
fm_port_by at bytes n fits long head None e false f = inr (fm_port.count_offset, fm_port_laws.breaks_writes at bytes n fits long head e f)

pub fm_port_verdict : (at : ℕ) (bytes : List ℕ) → IsBytes bytes → Verdict (fm_port.SpellsPort at bytes) (fm_port.PortInvalidAt at bytes)
fm_port_verdict at bytes fits = elim (cases_eq (length bytes) fm_port.port_size) [
  | inl long ↦ (
      let n = fm_port_there bytes in
      fm_port_by at bytes n.0 fits long n.1 (first_invalid 0 (fm_port.number_fields at n.0)) refl (fm_port.are_writes at (fm_port_laws.count_in bytes) (fm_port_laws.entries_in bytes)) refl)
  | inr other ↦ inr (min (length bytes) fm_port.port_size, inl (other, refl))
]

psg_port_by : (at : ℕ) (bytes : List ℕ) → IsBytes bytes → length bytes ≡ psg_port.port_size → (right : Bool) → psg_port.are_writes at (psg_port_laws.read_port bytes) ≡ right
    → Verdict (psg_port.SpellsPort at bytes) (psg_port.PortInvalidAt at bytes)
psg_port_by at bytes fits long true e = inl (psg_port.writes_at (number_at w16 0 bytes) (take psg_port.entries_size (drop psg_port.entries_offset bytes)), psg_port_laws.port_read at bytes fits long e)
psg_port_by at bytes fits long false e = inr (0, psg_port_laws.breaks_port at bytes fits long e)

pub psg_port_verdict : (at : ℕ) (bytes : List ℕ) → IsBytes bytes → Verdict (psg_port.SpellsPort at bytes) (psg_port.PortInvalidAt at bytes)
psg_port_verdict at bytes fits = elim (cases_eq (length bytes) psg_port.port_size) [
  | inl long ↦ psg_port_by at bytes fits long (psg_port.are_writes at (psg_port_laws.read_port bytes)) refl
  | inr other ↦ inr (min (length bytes) psg_port.port_size, inl (other, refl))
]

pub fm_verdict : (bytes : List ℕ) → IsBytes bytes → Verdict (fm.SpellsSynth bytes) (fm.SynthInvalidAt bytes)
fm_verdict bytes fits =
    sized fm.synth_size fm.synth_fields (fm.SpellsSynth bytes) bytes fits
    (λ long. (fm.synth_at bytes, fm_laws.synth_stands bytes long))
    (λ long s keeps right. (fm.synth_from s, fm_laws.synth_read bytes s keeps right))

pub psg_verdict : (bytes : List ℕ) → IsBytes bytes → Verdict (psg.SpellsSynth bytes) (psg.SynthInvalidAt bytes)
psg_verdict bytes fits =
    sized psg.synth_size psg.synth_fields (psg.SpellsSynth bytes) bytes fits
    (λ long. psg_there bytes long)
    (λ long s keeps right. (psg.synth_from s, psg_laws.synth_read bytes s keeps right))

-- ---- the board

lines_verdict : (at : ℕ) (bytes : List ℕ) → IsBytes bytes → Verdict (λ n. Keeps (lines_fields at) bytes n × IsRight (lines_fields at) n) (shared.LinesInvalidAt at bytes)
lines_verdict at bytes fits =
    sized shared.lines_size (lines_fields at) (λ n. Keeps (lines_fields at) bytes n × IsRight (lines_fields at) n) bytes fits
    (λ long. (let s = lines_there bytes long in (s.0, s.1 at)))
    (λ long n keeps right. (n, (keeps, right)))

-- the Z80's RAM and bank register, where the bus has them
record StoreKept (bytes : List ℕ) (store : Option Store) : Type 0 where
  is : bytes ≡ shared.store_bytes store
  fits : IfSome store IsStore
  right : (place : ℕ) → shared.StoreInvalidAt bytes place → ⊥

store_verdict : (bytes : List ℕ) → IsBytes bytes → (length bytes ≡ 0) ⊎ (length bytes ≡ shared.store_size true) → Verdict (StoreKept bytes) (shared.StoreInvalidAt bytes)
store_verdict bytes fits (inl empty) = inl (
  None,
  record {
    is = shared_laws.empty_store bytes empty;
    fits = tt;
    right = λ place invalid. omega (arith, empty, invalid.0);
  },
)
store_verdict bytes fits (inr long) = elim (cases_lt (number_at w16 ram_size bytes) 512) [
  | inl nine ↦ (
      let store : Store = record { ram = take ram_size bytes; bank = number_at w16 ram_size bytes } in
      let found = shared_laws.held_found bytes (take ram_size bytes) (number_at w16 ram_size bytes) store fits long refl refl nine refl in
      inl (Some store, record { is = found.0; fits = found.1; right = shared_laws.held_right bytes (number_at w16 ram_size bytes) refl nine }))
  | inr more ↦ inr (ram_size, shared_laws.held_invalid bytes (number_at w16 ram_size bytes) ram_size long refl more refl)
]

store_long : (bytes : List ℕ) → shared.IsLength bytes → (length (take (shared.store_length bytes) bytes) ≡ 0) ⊎ (length (take (shared.store_length bytes) bytes) ≡ shared.store_size true)
store_long bytes (inl short) = inl (omega (arith, short, length-take (shared.store_length bytes) bytes))
store_long bytes (inr long) = inr (omega (arith, long, length-take (shared.store_length bytes) bytes))

-- a part, and what follows it
chained : {A B : Type 0} (start : ℕ) (Invalid Following : ℕ → Type 0) → A ⊎ ((place : ℕ) × Invalid place) → (A → (place : ℕ) → Invalid place → ⊥)
    → B ⊎ ((place : ℕ) × Following place) → (A × B) ⊎ ((place : ℕ) × shared.InvalidFrom start Invalid Following place)
chained start Invalid Following (inr (place, invalid)) none rest = inr (start + place, inl (place, invalid, refl))
chained start Invalid Following (inl a) none (inl b) = inl (a, b)
chained start Invalid Following (inl a) none (inr (place, invalid)) = inr (place, inr (none a, invalid))

abbrev LinesKept : ℕ → List ℕ → SavedLines → Type 0
LinesKept at bytes n = Keeps (lines_fields at) bytes n × IsRight (lines_fields at) n

-- what the parts of a board keep
abbrev PartsKept : ℕ → Bool → shared.Parts → Type 0
PartsKept at pal parts =
    ((store : Option Store) × StoreKept parts.store store)
    × (((vdp : Vdp) × video.Spells at pal parts.vdp vdp)
    × (((port : Port) × fm_port.SpellsPort at parts.fm port)
    × (((psg : List PsgWrite) × psg_port.SpellsPort at parts.psg psg)
    × (((n : SavedLines) × LinesKept at parts.lines n) × Unit {0}))))

record AreBytes (parts : shared.Parts) : Type 0 where
  store : IsBytes parts.store
  vdp : IsBytes parts.vdp
  fm : IsBytes parts.fm
  psg : IsBytes parts.psg
  lines : IsBytes parts.lines

parts_verdict : (at : ℕ) (pal : Bool) (start : ℕ) (parts : shared.Parts) → AreBytes parts → (length parts.store ≡ 0) ⊎ (length parts.store ≡ shared.store_size true)
    → PartsKept at pal parts ⊎ ((place : ℕ) × shared.PartsInvalidAt at pal start parts place)
parts_verdict at pal start parts fits long =
    chained 0 (shared.StoreInvalidAt parts.store) _ (store_verdict parts.store fits.store long) (λ kept. kept.1.right)
    (chained start (video.InvalidAt at pal parts.vdp) _ (video_verdict at pal parts.vdp fits.vdp) (λ kept. not_refused (video_table at pal) parts.vdp (numbers_of kept.0) kept.1.keeps kept.1.right)
    (chained _ (fm_port.PortInvalidAt at parts.fm) _ (fm_port_verdict at parts.fm fits.fm) (λ kept. fm_port_laws.right_nowhere at parts.fm kept.0 kept.1)
    (chained _ (psg_port.PortInvalidAt at parts.psg) _ (psg_port_verdict at parts.psg fits.psg) (λ kept. psg_port_laws.right_nowhere at parts.psg kept.0 kept.1)
    (chained _ (shared.LinesInvalidAt at parts.lines) (λ place. ⊥) (lines_verdict at parts.lines fits.lines) (λ kept. not_refused (lines_table at) parts.lines kept.0 kept.1.0 kept.1.1) (inl tt)))))

cut_bytes : (bytes : List ℕ) → IsBytes bytes → AreBytes (shared.cut bytes)
cut_bytes bytes fits =
    let following = IsBytes-drop (shared.store_length bytes) bytes fits in
    let past_vdp = IsBytes-drop video.vdp_size (drop (shared.store_length bytes) bytes) following in
    let past_fm = IsBytes-drop fm_port.port_size (drop video.vdp_size (drop (shared.store_length bytes) bytes)) past_vdp in
    record {
      store = IsBytes-take (shared.store_length bytes) bytes fits;
      vdp = IsBytes-take video.vdp_size (drop (shared.store_length bytes) bytes) following;
      fm = IsBytes-take fm_port.port_size (drop video.vdp_size (drop (shared.store_length bytes) bytes)) past_vdp;
      psg = IsBytes-take psg_port.port_size (drop fm_port.port_size (drop video.vdp_size (drop (shared.store_length bytes) bytes))) past_fm;
      lines = IsBytes-drop psg_port.port_size (drop fm_port.port_size (drop video.vdp_size (drop (shared.store_length bytes) bytes))) past_fm;
    }

-- a board over a recording
abbrev pub BoardKept : Recorded → ℕ → Bool → List ℕ → Board → Type 0
BoardKept recording at pal bytes board = shared.Spells at pal bytes board × (board.recording ≡ recording)

board_of : (recording : Recorded) (at : ℕ) (pal : Bool) (bytes : List ℕ) → PartsKept at pal (shared.cut bytes) → (board : Board) × BoardKept recording at pal bytes board
board_of recording at pal bytes (store, (vdp, (port, (psg, (lines, nothing))))) = (
  board_from recording store.0 vdp.0 port.0 psg.0 lines.0,
  (
    shared_laws.whole at pal bytes recording store.0 vdp.0 port.0 psg.0 lines.0 (record {
      store_is = store.1.is;
      store_fits = store.1.fits;
      vdp_is = vdp.1;
      fm_is = port.1;
      psg_is = psg.1;
      lines_are = lines.1.0;
      lines_right = lines.1.1;
    }),
    refl,
  ),
)

board_read : (recording : Recorded) (at : ℕ) (pal : Bool) (bytes : List ℕ) → IsBytes bytes → shared.IsLength bytes → Verdict (BoardKept recording at pal bytes) (shared.InvalidAt at pal bytes)
board_read recording at pal bytes fits long = elim (parts_verdict at pal (shared.store_length bytes) (shared.cut bytes) (cut_bytes bytes fits) (store_long bytes long)) [
  | inl kept ↦ inl (board_of recording at pal bytes kept)
  | inr invalid ↦ inr (invalid.0, inr (long, invalid.1))
]

pub board_verdict : (recording : Recorded) (at : ℕ) (pal : Bool) (bytes : List ℕ) → IsBytes bytes → Verdict (BoardKept recording at pal bytes) (shared.InvalidAt at pal bytes)
board_verdict recording at pal bytes fits = elim (cases_eq (length bytes) (shared.board_size false)) [
  | inl short ↦ board_read recording at pal bytes fits (inl short)
  | inr not_short ↦ (elim (cases_eq (length bytes) (shared.board_size true)) [
    | inl long ↦ board_read recording at pal bytes fits (inr long)
    | inr not_long ↦ inr (min (length bytes) (shared.board_size true), inl (λ is. elim is [ inl e ↦ not_short e | inr e ↦ not_long e ], refl))
  ])
]
