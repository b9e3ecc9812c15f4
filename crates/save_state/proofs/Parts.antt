-- The parts of a state: how long they are, and what is in them.
use Rattle.std.proofs.Common.{◌≡◌, ℕ, ◌+◌, ◌≤◌, Bool, true, false, List, ◌++◌, length, take, drop, Option, Some, None, is_some, not, if◌then◌else◌, refl, sym, ap, ◌∙◌, arith}
use Rattle.std.specs.Int.{Width, byte_len, from_be_bytes}
use Rattle.std.proofs.lemmas.List.{append-nil, take_at, drop_at, length-append, length-take, length-drop, take-append-le, drop-append-le}
use Rattle.md_fields.specs.Fields.{spelling, AreSized}
use Rattle.md_fields.specs.Places.{number_at}
use Rattle.md_fields.proofs.Standing.{long_as, long_as_sized}
use Rattle.m68k_chip.specs.Spelling as main
use Rattle.m68k_chip.specs.States.{State68}
use Rattle.m68k_chip.proofs.SpellingLaws as main_laws
use Rattle.z80_chip.specs.Saved as saved80
use Rattle.z80_chip.specs.Spelling as sub
use Rattle.z80_chip.specs.States.{State80}
use Rattle.z80_chip.specs.declared.saved.Saved80.{Saved80}
use Rattle.z80_chip.proofs.SpellingLaws as sub_laws
use Rattle.z80_parcel.specs.Parcels.{Store}
use Rattle.vdp_ports.specs.Numbers as numbers_vdp
use Rattle.vdp_ports.specs.Saved.{vdp_fields}
use Rattle.vdp_ports.specs.Spelling as video
use Rattle.vdp_ports.specs.Vdp.{Vdp}
use Rattle.vdp_ports.proofs.SavedLaws as vdp_laws
use Rattle.vdp_chip.specs.RendererState.{RendererState}
use Rattle.vdp_chip.specs.Saved as saved_renderer_state
use Rattle.vdp_chip.specs.Spelling as renderer_state
use Rattle.vdp_chip.proofs.SavedLaws as renderer_state_laws
use Rattle.fm_port.specs.Port.{Port}
use Rattle.fm_port.specs.PortSpelling as fm_port
use Rattle.fm_chip.specs.Synth as fm_synths
use Rattle.fm_chip.specs.SynthSpelling as fm
use Rattle.fm_port.proofs.PortBytes.{table as fm_port_table}
use Rattle.fm_chip.proofs.SynthBytes.{table as fm_table}
use Rattle.psg_sound.specs.PortSpelling as psg_port
use Rattle.psg_sound.specs.Synth as psg_synths
use Rattle.psg_sound.specs.SynthSpelling as psg
use Rattle.psg_sound.specs.declared.write.PsgWrite.{PsgWrite}
use Rattle.psg_sound.proofs.PortBytes.{table as psg_port_table}
use Rattle.psg_sound.proofs.SynthBytes.{table as psg_table}
use Rattle.bus_shared.specs.Board.{Board}
use Rattle.bus_shared.specs.Saved.{lines_of, lines_fields}
use Rattle.bus_shared.specs.Spelling as shared
use Rattle.bus_shared.proofs.SavedLaws as lines_laws
use Rattle.save_state.specs.declared.layout.Part.{Part}
use Rattle.save_state.specs.Layout.{part_of}
use Rattle.save_state.specs.States.{number_bytes}

-- ---- lists

-- lists joined of parts as long as each other are the same part by part
pub cut : (a b c d : List ℕ) → length a ≡ length c → a ++ b ≡ c ++ d → (a ≡ c) × (b ≡ d)
cut a b c d e f = (
  sym (take_at a b (length c) e) ∙ ap (take (length c)) f ∙ take_at c d (length c) refl,
  sym (drop_at a b (length c) e) ∙ ap (drop (length c)) f ∙ drop_at c d (length c) refl,
)

-- a part is as long as its size
pub part_long : (p : Part) (bytes : List ℕ) → p.place + p.size ≤ length bytes → length (part_of p bytes) ≡ p.size
part_long p bytes inside = omega (arith, length-take p.size (drop p.place bytes), length-drop p.place bytes)

-- the number at an offset of the front of a list
pub number_front : (w : Width) (place : ℕ) (a b : List ℕ) → place + byte_len w ≤ length a → number_at w place (a ++ b) ≡ number_at w place a
unfolding number_at
number_front w place a b inside =
    ap (λ (l : List ℕ). from_be_bytes w (take (byte_len w) l)) (drop-append-le place a b (omega (arith, inside)))
    ∙ ap (from_be_bytes w) (take-append-le (byte_len w) (drop place a) b (omega (arith, inside, length-drop place a)))

-- ---- how long the bytes of each item are

pub main_long : (cart : List ℕ) (at : ℕ) (bytes : List ℕ) (s : State68) → main.Spells cart at bytes s → length bytes ≡ main.chip_size
main_long cart at bytes s p = main_laws.spelled_long cart at bytes s p

pub vdp_long : (at : ℕ) (pal : Bool) (bytes : List ℕ) (s : Vdp) → video.Spells at pal bytes s → length bytes ≡ video.vdp_size
vdp_long at pal bytes s p = ap length p.keeps.all ∙ long_as (vdp_fields at pal (numbers_vdp.numbers_of s)) p.keeps.within ∙ vdp_laws.fields_size at pal (numbers_vdp.numbers_of s)

pub renderer_state_long : (at : ℕ) (pal : Bool) (bytes : List ℕ) (d : RendererState) → renderer_state.Spells at pal bytes d → length bytes ≡ renderer_state.renderer_state_size
renderer_state_long at pal bytes d p = ap length p.keeps.all ∙ long_as (saved_renderer_state.renderer_state_fields at pal (saved_renderer_state.numbers_of d)) p.keeps.within ∙ renderer_state_laws.fields_size at pal (saved_renderer_state.numbers_of d)

pub fm_port_long : (at : ℕ) (bytes : List ℕ) (p : Port) → fm_port.SpellsPort at bytes p → length bytes ≡ fm_port.port_size
fm_port_long at bytes p s = ap length s.keeps.all ∙ long_as (fm_port.port_fields at (fm_port.saved_port_of p)) s.keeps.within ∙ (fm_port_table at).sized (fm_port.saved_port_of p)

pub psg_port_long : (at : ℕ) (bytes : List ℕ) (ws : List PsgWrite) → psg_port.SpellsPort at bytes ws → length bytes ≡ psg_port.port_size
psg_port_long at bytes ws s = ap length s.keeps.all ∙ long_as (psg_port.port_fields at (psg_port.saved_port_of ws)) s.keeps.within ∙ (psg_port_table at).sized (psg_port.saved_port_of ws)

pub fm_long : (bytes : List ℕ) (s : fm_synths.Synth) → fm.SpellsSynth bytes s → length bytes ≡ fm.synth_size
fm_long bytes s p = ap length p.keeps.all ∙ long_as (fm.synth_fields (fm.saved_synth_of s)) p.keeps.within ∙ fm_table.sized (fm.saved_synth_of s)

pub psg_long : (bytes : List ℕ) (s : psg_synths.Synth) → psg.SpellsSynth bytes s → length bytes ≡ psg.synth_size
psg_long bytes s p = ap length p.keeps.all ∙ long_as (psg.synth_fields (psg.saved_synth_of s)) p.keeps.within ∙ psg_table.sized (psg.saved_synth_of s)

pub lines_long : (at : ℕ) (pal : Bool) (bytes : List ℕ) (b : Board) → shared.Spells at pal bytes b → length (shared.lines_bytes (lines_of b)) ≡ shared.lines_size
lines_long at pal bytes b p = ap length p.lines.all ∙ long_as (lines_fields at (lines_of b)) p.lines.within ∙ lines_laws.fields_size at (lines_of b)

-- ---- their bytes do not depend on the rules

pub main_own : (cart : List ℕ) (at : ℕ) (bytes : List ℕ) (s : State68) → main.Spells cart at bytes s → bytes ≡ main.chip_bytes s
unfolding spelling
main_own cart at bytes s p = p.keeps.all

pub renderer_state_own : (at : ℕ) (pal : Bool) (bytes : List ℕ) (d : RendererState) → renderer_state.Spells at pal bytes d → bytes ≡ renderer_state.renderer_state_bytes d
renderer_state_own at pal bytes d p = p.keeps.all ∙ renderer_state_laws.same_bytes at 0 pal false (saved_renderer_state.numbers_of d)

-- ---- the Z80: its numbers, and RAM with the bank register after them

same_sub : (holds : Bool) (at : ℕ) (n : Saved80) (store : Option Store) → spelling (saved80.fields_by at holds (record { numbers = n; store = store })) ≡ spelling (saved80.fields_by 0 true (record { numbers = n; store = store }))
unfolding spelling
same_sub holds at n None = refl
same_sub holds at n (Some store) = refl

pub sub_own : (cart : List ℕ) (at : ℕ) (bytes : List ℕ) (s : State80) → sub.Spells cart at bytes s → bytes ≡ sub.chip_bytes s
sub_own cart at bytes s p = p.keeps.all ∙ same_sub (saved80.asks_more cart (saved80.kept_of s)) at (saved80.numbers_of s) s.store

pub sub_long : (cart : List ℕ) (at : ℕ) (bytes : List ℕ) (s : State80) → sub.Spells cart at bytes s → length bytes ≡ sub.spelled_size (is_some s.store)
sub_long cart at bytes s p =
    ap length p.keeps.all ∙ long_as (saved80.chip_fields cart at (saved80.kept_of s)) p.keeps.within ∙ sub_laws.size_by at (saved80.asks_more cart (saved80.kept_of s)) (saved80.numbers_of s) s.store

numbers_are : (s : State80) → spelling (saved80.number_fields 0 true (saved80.numbers_of s)) ≡ number_bytes s
unfolding spelling
numbers_are s =
    sym (append-nil (spelling (saved80.number_fields 0 true (saved80.numbers_of s)))) ∙ sub_laws.whole_bytes 0 true (record s { store = None })

-- its bytes are those of its numbers and those of RAM and bank register
pub sub_joined : (s : State80) → sub.chip_bytes s ≡ number_bytes s ++ shared.store_bytes s.store
sub_joined s = sym (sub_laws.whole_bytes 0 true s) ∙ ap (λ (l : List ℕ). l ++ shared.store_bytes s.store) (numbers_are s)

numbers_sized : (n : Saved80) → length n.answers ≡ 4 → length (spelling (saved80.number_fields 0 true n)) ≡ sub.ram_offset
unfolding AreSized
numbers_sized n e =
    long_as_sized (saved80.number_fields 0 true n) (tt, (tt, (tt, (tt, (tt, (tt, (tt, (tt, (tt, (tt, (tt, (tt, (tt, (tt, (tt, (tt, (tt, (tt, (tt, (tt, (tt, (tt, (tt, (tt, (tt, (e, (refl, tt)))))))))))))))))))))))))))
    ∙ sub_laws.number_size 0 true n

pub numbers_long : (cart : List ℕ) (at : ℕ) (bytes : List ℕ) (s : State80) → sub.Spells cart at bytes s → length (number_bytes s) ≡ sub.ram_offset
numbers_long cart at bytes s p =
    sym (ap length (numbers_are s)) ∙ numbers_sized (saved80.numbers_of s) (sub_laws.answers_four cart at bytes (saved80.kept_of s) p.keeps)

-- what is left after the Z80's numbers
pub size_left : (has : Bool) → sub.spelled_size has ≡ sub.ram_offset + shared.store_size has
size_left true = refl
size_left false = refl

pub store_long : (cart : List ℕ) (at : ℕ) (bytes : List ℕ) (s : State80) → sub.Spells cart at bytes s → length (shared.store_bytes s.store) ≡ shared.store_size (is_some s.store)
store_long cart at bytes s p =
    let whole = sub_long cart at bytes s p in
    let front = numbers_long cart at bytes s p in
    let parts = ap length (sub_own cart at bytes s p ∙ sub_joined s) in
    omega (arith, whole, front, parts, size_left (is_some s.store), length-append (number_bytes s) (shared.store_bytes s.store))

-- RAM and bank register of whoever has them
pub owned_long : (ours theirs : Option Store) → is_some theirs ≡ not (is_some ours) → length (shared.store_bytes ours) ≡ shared.store_size (is_some ours) → length (shared.store_bytes theirs) ≡ shared.store_size (is_some theirs) → length (shared.store_bytes (if is_some ours then ours else theirs)) ≡ shared.store_size true
owned_long (Some s) theirs e a b = a
owned_long None (Some s) e a b = b
owned_long None None e a b = absurd cc
