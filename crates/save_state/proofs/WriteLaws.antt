-- What is written is the bytes of the machine.
use Rattle.std.proofs.Common.{◌≡◌, ℕ, ◌+◌, ◌-◌, ◌≤◌, Bool, true, false, List, [], ◌∷◌, ◌++◌, length, map, take, drop, Option, Some, None, is_some, not, IfSome, if◌then◌else◌, append_assoc, refl, sym, ap, ◌∙◌, arith}
use Rattle.std.specs.Int.{w64, to_be_bytes}
use Rattle.std.proofs.lemmas.List.{append-nil, take_at, drop_at, length-append, length-map}
use mir.Val.{bool_byte}
use Rattle.sha2.specs.Sha256.{sha256}
use Rattle.md_word.specs.Coding.{flag_number}
use Rattle.md_fields.specs.Fields.{AreSized, spelling}
use Rattle.md_fields.proofs.Standing.{long_as_sized}
use Rattle.m68k_chip.specs.Spelling as main
use Rattle.z80_chip.specs.Spelling as sub
use Rattle.z80_chip.specs.States.{State80}
use Rattle.z80_chip.specs.Validity.{IsChip80}
use Rattle.z80_parcel.specs.Parcels.{Store, IsStore}
use Rattle.vdp_ports.specs.Spelling.{vdp_bytes}
use Rattle.vdp_chip.specs.RendererState.{RendererState}
use Rattle.vdp_chip.specs.Saved as saved_renderer_state
use Rattle.vdp_chip.specs.Spelling as renderer_state
use Rattle.fm_port.specs.Port.{Port}
use Rattle.sound_writes.proofs.Ports.{entries_whole}
use Rattle.fm_port.specs.PortSpelling as fm_port
use Rattle.fm_chip.specs.SynthSpelling as fm
use Rattle.fm_port.proofs.PortBytes.{room as fm_port_room, table as fm_port_table, write_layout as fm_write_layout}
use Rattle.psg_sound.specs.PortSpelling as psg_port
use Rattle.psg_sound.specs.SynthSpelling as psg
use Rattle.psg_sound.specs.declared.write.PsgWrite.{PsgWrite}
use Rattle.psg_sound.proofs.PortBytes.{room as psg_port_room, table as psg_port_table, write_layout as psg_write_layout}
use Rattle.bus_shared.specs.Board.{Board, IsBoard}
use Rattle.bus_shared.specs.Saved.{lines_of, lines_fields}
use Rattle.bus_shared.specs.Spelling as shared
use Rattle.bus_shared.specs.declared.saved_lines.SavedLines.{SavedLines}
use Rattle.bus_shared.proofs.SavedLaws as lines_laws
use Rattle.bus_shared.proofs.SpellingLaws as shared_laws
use Rattle.md_chips.specs.Console.{Console, renderer_state_in}
use Rattle.md_chips.specs.Starts.{first_batch}
use Rattle.md_chips.specs.Owners.{HasOneOwner}
use Rattle.save_state.specs.Layout.{apart_size, fm_port_there, lines_there, numbers_there, part_of, psg_port_there}
use Rattle.save_state.specs.States.{after_video, mark, holder_of, own_bytes, store_of, number_bytes, state_bytes}
use Rattle.save_state.proofs.Gathered.{nothing}
use Rattle.save_state.proofs.Parts.{sub_joined, size_left}

-- ---- how long what is written is

fm_port_full : (at : ℕ) (p : Port) → length p.writes ≤ 1024 → length (fm_port.port_bytes (fm_port.settled_port at p)) ≡ fm_port.port_size
unfolding AreSized
fm_port_full at p few =
    long_as_sized (fm_port.port_fields 0 (fm_port.saved_port_of (fm_port.settled_port at p)))
    (tt, (tt, (tt, (tt, (tt, (tt, (tt, (tt, (tt, (tt, (tt, (tt, (tt, (entries_whole fm_write_layout fm_port_room (map fm_port.saved_write_of p.writes) (omega (arith, few, length-map p.writes fm_port.saved_write_of)), tt))))))))))))))
    ∙ (fm_port_table 0).sized (fm_port.saved_port_of (fm_port.settled_port at p))

psg_port_full : (ws : List PsgWrite) → length ws ≤ 1024 → length (psg_port.port_bytes ws) ≡ psg_port.port_size
unfolding AreSized
psg_port_full ws few =
    long_as_sized (psg_port.port_fields 0 (psg_port.saved_port_of ws)) (tt, (entries_whole psg_write_layout psg_port_room ws few, tt))
    ∙ (psg_port_table 0).sized (psg_port.saved_port_of ws)

lines_full : (n : SavedLines) → length (shared.lines_bytes n) ≡ shared.lines_size
unfolding AreSized
lines_full n = long_as_sized (lines_fields 0 n) (tt, (tt, (tt, (tt, (tt, (tt, (tt, (tt, (tt, (tt, (tt, (tt, (tt, tt))))))))))))) ∙ lines_laws.fields_size 0 n

-- ---- what is cut off

numbers_long : (s : State80) → IfSome s.store IsStore → length (sub.chip_bytes s) ≡ sub.spelled_size (is_some s.store) → length (number_bytes s) ≡ sub.ram_offset
numbers_long s ok long =
    omega (arith, long, ap length (sub_joined s), length-append (number_bytes s) (shared.store_bytes s.store), shared_laws.store_long s.store ok, size_left (is_some s.store))

pub numbers_cut : (bytes : List ℕ) (s : State80) → IfSome s.store IsStore → bytes ≡ sub.chip_bytes s → length bytes ≡ sub.spelled_size (is_some s.store) → (take sub.ram_offset bytes ≡ number_bytes s) × (drop sub.ram_offset bytes ≡ shared.store_bytes s.store)
numbers_cut bytes s ok e long =
    let some = numbers_long s ok (sym (ap length e) ∙ long) in
    (ap (take sub.ram_offset) (e ∙ sub_joined s) ∙ take_at (number_bytes s) (shared.store_bytes s.store) sub.ram_offset some, ap (drop sub.ram_offset) (e ∙ sub_joined s) ∙ drop_at (number_bytes s) (shared.store_bytes s.store) sub.ram_offset some)

-- the parts of what follows the VDP
ports_cut : (f p l : List ℕ) → length f ≡ fm_port.port_size → length p ≡ psg_port.port_size → length l ≡ shared.lines_size → (part_of fm_port_there (f ++ (p ++ l)) ≡ f) × (part_of psg_port_there (f ++ (p ++ l)) ≡ p) × (part_of lines_there (f ++ (p ++ l)) ≡ l)
ports_cut f p l b c d = (
  take_at f (p ++ l) fm_port.port_size b,
  ap (take psg_port.port_size) (drop_at f (p ++ l) fm_port.port_size b) ∙ take_at p l psg_port.port_size c,
  ap (take shared.lines_size) (ap (drop shared.lines_offset) (sym (append_assoc f p l)) ∙ drop_at (f ++ p) l shared.lines_offset (omega (arith, b, c, length-append f p))) ∙ ap (take shared.lines_size) (sym (append-nil l)) ∙ take_at l [] shared.lines_size d,
)

-- how many bytes are after the VDP
pub after_long : (at : ℕ) (b : Board) → IsBoard b → length (after_video at b) ≡ apart_size
after_long at b ok =
    let f = fm_port.port_bytes (shared.settled_board at b).fm in
    let p = psg_port.port_bytes b.psg in
    let l = shared.lines_bytes (lines_of b) in
    omega (arith, fm_port_full at b.fm ok.fm.most, psg_port_full b.psg ok.psg.most, lines_full (lines_of b), length-append f (p ++ l), length-append p l)

pub board_least : (has : Bool) → apart_size ≤ shared.board_size has
board_least true = omega arith
board_least false = omega arith

-- a list that ends with what follows the VDP, cut there
pub cut_there : (at : ℕ) (b : Board) (old all : List ℕ) (cut : ℕ) → IsBoard b → all ≡ old ++ shared.board_bytes (shared.settled_board at b) → cut + apart_size ≡ length all
    → (take cut all ≡ old ++ (shared.store_bytes b.store ++ vdp_bytes (shared.settled_board at b).vdp)) × (drop cut all ≡ after_video at b)
cut_there at b old all cut ok e long =
    let s = shared.store_bytes b.store in
    let v = vdp_bytes (shared.settled_board at b).vdp in
    let rest = after_video at b in
    let same : all ≡ (old ++ (s ++ v)) ++ rest = e ∙ in_two old s v rest in
    let front : length (old ++ (s ++ v)) ≡ cut = omega (arith, long, ap length same, length-append (old ++ (s ++ v)) rest, after_long at b ok) in
    (ap (take cut) same ∙ take_at (old ++ (s ++ v)) rest cut front, ap (drop cut) same ∙ drop_at (old ++ (s ++ v)) rest cut front) where
      in_two : (old s v rest : List ℕ) → old ++ (s ++ (v ++ rest)) ≡ (old ++ (s ++ v)) ++ rest
      in_two old s v rest = simp (append_assoc)

-- ---- RAM and bank register of whoever has them

-- those that the Z80 has, after its numbers
pub own_cut : (m : Console) (has : Bool) (apart : List ℕ) → IsChip80 m.sub → has ≡ is_some m.shared.store → apart ≡ sub.chip_bytes m.sub.state → length apart ≡ sub.spelled_size (is_some m.sub.state.store)
    → (part_of numbers_there apart ≡ number_bytes m.sub.state) × ((if has then [] else drop sub.ram_offset apart) ≡ own_bytes m)
own_cut m has apart ok h e long =
    let c = numbers_cut apart m.sub.state ok.store e long in
    (c.0, λ i. if h i then [] else c.1 i)

pub own_few : (m : Console) → IsChip80 m.sub → length (own_bytes m) ≤ shared.store_size true
own_few m ok = by m.shared.store m.sub.state.store (shared_laws.store_long m.sub.state.store ok.store) where
  by : (theirs ours : Option Store) → length (shared.store_bytes ours) ≡ shared.store_size (is_some ours) → length (if is_some theirs then [] else shared.store_bytes ours) ≤ shared.store_size true
  by (Some t) ours e = omega arith
  by None (Some s) e = omega (arith, e)
  by None None e = omega (arith, e)

-- with what the bus keeps they are so many at most, and so many where they have one owner
pub own_room : (m : Console) → length (own_bytes m) ≤ shared.store_size true → length (own_bytes m) + shared.board_size (is_some m.shared.store) ≤ shared.board_size true
own_room m few = by m.shared.store few where
  by : (theirs : Option Store) → length (if is_some theirs then [] else shared.store_bytes m.sub.state.store) ≤ shared.store_size true → length (if is_some theirs then [] else shared.store_bytes m.sub.state.store) + shared.board_size (is_some theirs) ≤ shared.board_size true
  by (Some t) few = omega arith
  by None few = omega (arith, few)

pub owner_room : (m : Console) → IsChip80 m.sub → HasOneOwner m → length (own_bytes m) + shared.board_size (is_some m.shared.store) ≡ shared.board_size true
owner_room m ok owner = by m.shared.store m.sub.state.store owner (shared_laws.store_long m.sub.state.store ok.store) where
  by : (theirs ours : Option Store) → is_some ours ≡ not (is_some theirs) → length (shared.store_bytes ours) ≡ shared.store_size (is_some ours) → length (if is_some theirs then [] else shared.store_bytes ours) + shared.board_size (is_some theirs) ≡ shared.board_size true
  by (Some t) ours o e = refl
  by None (Some s) o e = omega (arith, e)
  by None None o e = absurd cc

store_joined : (m : Console) → own_bytes m ++ shared.store_bytes m.shared.store ≡ shared.store_bytes (store_of m)
store_joined m = by m.shared.store where
  by : (theirs : Option Store) → (if is_some theirs then [] else shared.store_bytes m.sub.state.store) ++ shared.store_bytes theirs ≡ shared.store_bytes (if is_some theirs then theirs else m.sub.state.store)
  by (Some t) = refl
  by None = ap (λ (l : List ℕ). shared.store_bytes m.sub.state.store ++ l) (nothing None refl) ∙ append-nil (shared.store_bytes m.sub.state.store)

-- ---- all of it

same_renderer_state : (d : RendererState) (m : Console) → d.next ≡ m.line → d.note ≡ m.note → d.picture ≡ m.picture → renderer_state.renderer_state_bytes d ≡ renderer_state.renderer_state_bytes (renderer_state_in m)
same_renderer_state d m a b c = λ i. spelling (saved_renderer_state.renderer_state_fields 0 false (saved_renderer_state.numbers_of (record { next = a i; note = b i; has_view = true; picture = c i; frame = None; pal = m.pal })))

regroup : (old a b c q d e f o s h i j k l m n u p : List ℕ) → (((((old ++ (a ++ (b ++ (c ++ q)))) ++ d) ++ (e ++ (f ++ o))) ++ (s ++ h)) ++ i) ++ (j ++ (k ++ (l ++ (m ++ (n ++ (u ++ p)))))) ≡ old ++ (a ++ (b ++ (c ++ (q ++ (d ++ (e ++ (f ++ ((o ++ s) ++ (h ++ (i ++ (j ++ (k ++ (l ++ (m ++ (n ++ (u ++ (p ++ [])))))))))))))))))
regroup old a b c q d e f o s h i j k l m n u p = simp (append_assoc, append-nil)

appended : (before first next part other : List ℕ) → next ≡ before ++ part → before ≡ first → part ≡ other → next ≡ first ++ other
appended before first next part other is one two = is ∙ (λ i. one i ++ two i)

pub written : (at : ℕ) (m : Console) (digest following : List ℕ) (d : RendererState) (old r0 r1 r2 r3 r4 r5 : List ℕ)
    → IsBoard m.shared → digest ≡ sha256 m.cart → following ≡ after_video at m.shared → d.next ≡ m.line → d.note ≡ m.note → d.picture ≡ m.picture
    → r0 ≡ old ++ (mark ++ (digest ++ (to_be_bytes w64 at ++ (flag_number m.pal ∷ []))))
    → r1 ≡ r0 ++ main.chip_bytes m.main → r2 ≡ r1 ++ (number_bytes m.sub.state ++ (holder_of m ∷ own_bytes m))
    → r3 ≡ r2 ++ (shared.store_bytes m.shared.store ++ vdp_bytes (shared.settled_board at m.shared).vdp) → r4 ≡ r3 ++ renderer_state.renderer_state_bytes d
    → r5 ≡ r4 ++ (part_of fm_port_there following ++ (to_be_bytes w64 (first_batch at) ++ (fm.synth_bytes m.fm ++ (to_be_bytes w64 (first_batch at) ++ (part_of psg_port_there following ++ (psg.synth_bytes m.psg ++ part_of lines_there following))))))
    → r5 ≡ old ++ state_bytes at m
unfolding spelling
written at m digest following d old r0 r1 r2 r3 r4 r5 ok e1 e2 dn dt dp f0 f1 f2 f3 f4 f5 =
    let batch : List ℕ = to_be_bytes w64 (first_batch at) in
    let f : List ℕ = fm_port.port_bytes (shared.settled_board at m.shared).fm in
    let p : List ℕ = psg_port.port_bytes m.shared.psg in
    let l : List ℕ = shared.lines_bytes (lines_of m.shared) in
    let c = ports_cut f p l (fm_port_full at m.shared.fm ok.fm.most) (psg_port_full m.shared.psg ok.psg.most) (lines_full (lines_of m.shared)) in
    let head : r0 ≡ old ++ (mark ++ (sha256 m.cart ++ (to_be_bytes w64 at ++ (flag_number m.pal ∷ [])))) =
    f0 ∙ ap (λ (x : List ℕ). old ++ (mark ++ (x ++ (to_be_bytes w64 at ++ (flag_number m.pal ∷ []))))) e1 in
    let p1 = appended r0 _ r1 (main.chip_bytes m.main) (main.chip_bytes m.main) f1 head refl in
    let own : List ℕ = number_bytes m.sub.state ++ (holder_of m ∷ own_bytes m) in
    let p2 = appended r1 _ r2 own own f2 p1 refl in
    let video : List ℕ = shared.store_bytes m.shared.store ++ vdp_bytes (shared.settled_board at m.shared).vdp in
    let p3 = appended r2 _ r3 video video f3 p2 refl in
    let p4 = appended r3 _ r4 (renderer_state.renderer_state_bytes d) (renderer_state.renderer_state_bytes (renderer_state_in m)) f4 p3 (same_renderer_state d m dn dt dp) in
    let fm_is : part_of fm_port_there following ≡ f = ap (part_of fm_port_there) e2 ∙ c.0 in
    let psg_is : part_of psg_port_there following ≡ p = ap (part_of psg_port_there) e2 ∙ c.1 in
    let lines_are : part_of lines_there following ≡ l = ap (part_of lines_there) e2 ∙ c.2 in
    f5
    ∙ (λ i. p4 i ++ (fm_is i ++ (batch ++ (fm.synth_bytes m.fm ++ (batch ++ (psg_is i ++ (psg.synth_bytes m.psg ++ lines_are i)))))))
    ∙ regroup old mark (sha256 m.cart) (to_be_bytes w64 at) (flag_number m.pal ∷ []) (main.chip_bytes m.main) (number_bytes m.sub.state) (holder_of m ∷ []) (own_bytes m) (shared.store_bytes m.shared.store) (vdp_bytes (shared.settled_board at m.shared).vdp)
    (renderer_state.renderer_state_bytes (renderer_state_in m)) f batch (fm.synth_bytes m.fm) batch p (psg.synth_bytes m.psg) l
    ∙ (λ i. old ++ (mark ++ (sha256 m.cart ++ (to_be_bytes w64 at ++ ((flag_number m.pal ∷ []) ++ (main.chip_bytes m.main ++ (number_bytes m.sub.state ++ ((holder_of m ∷ []) ++ (store_joined m i ++ (vdp_bytes (shared.settled_board at m.shared).vdp ++ (renderer_state.renderer_state_bytes (renderer_state_in m) ++ (f ++ (batch ++ (fm.synth_bytes m.fm ++ (batch ++ (p ++ (psg.synth_bytes m.psg ++ (l ++ []))))))))))))))))))

byte_of : (b : Bool) → bool_byte b ≡ (if b then 1 else 0)
byte_of true = refl
byte_of false = refl

pub holder_byte : (m : Console) (has : Bool) (byte : ℕ) → has ≡ is_some m.shared.store → byte ≡ bool_byte has → byte ∷ [] ≡ holder_of m ∷ []
holder_byte m has byte h e = ap (λ (n : ℕ). n ∷ []) (e ∙ byte_of has ∙ ap (λ (b : Bool). if b then 1 else 0) h)

-- ---- lists one after another

seven_joined : (old a b c d e f g : List ℕ) → ((((((old ++ a) ++ b) ++ c) ++ d) ++ e) ++ f) ++ g ≡ old ++ (a ++ (b ++ (c ++ (d ++ (e ++ (f ++ g))))))
seven_joined old a b c d e f g = simp (append_assoc)

pub seven : (old a b c d e f g r1 r2 r3 r4 r5 r6 r7 : List ℕ) → r1 ≡ old ++ a → r2 ≡ r1 ++ b → r3 ≡ r2 ++ c → r4 ≡ r3 ++ d → r5 ≡ r4 ++ e → r6 ≡ r5 ++ f → r7 ≡ r6 ++ g
    → r7 ≡ old ++ (a ++ (b ++ (c ++ (d ++ (e ++ (f ++ g))))))
seven old a b c d e f g r1 r2 r3 r4 r5 r6 r7 e1 e2 e3 e4 e5 e6 e7 =
    let p2 : r2 ≡ (old ++ a) ++ b = e2 ∙ ap (λ (x : List ℕ). x ++ b) e1 in
    let p3 : r3 ≡ ((old ++ a) ++ b) ++ c = e3 ∙ ap (λ (x : List ℕ). x ++ c) p2 in
    let p4 : r4 ≡ (((old ++ a) ++ b) ++ c) ++ d = e4 ∙ ap (λ (x : List ℕ). x ++ d) p3 in
    let p5 : r5 ≡ ((((old ++ a) ++ b) ++ c) ++ d) ++ e = e5 ∙ ap (λ (x : List ℕ). x ++ e) p4 in
    let p6 : r6 ≡ (((((old ++ a) ++ b) ++ c) ++ d) ++ e) ++ f = e6 ∙ ap (λ (x : List ℕ). x ++ f) p5 in
    e7 ∙ ap (λ (x : List ℕ). x ++ g) p6 ∙ seven_joined old a b c d e f g

-- three lists one after another
pub three : (old a b c r1 r2 r3 : List ℕ) → r1 ≡ old ++ a → r2 ≡ r1 ++ b → r3 ≡ r2 ++ c → r3 ≡ old ++ (a ++ (b ++ c))
three old a b c r1 r2 r3 e1 e2 e3 = e3 ∙ ap (λ (x : List ℕ). x ++ c) (e2 ∙ ap (λ (x : List ℕ). x ++ b) e1) ∙ joined old a b c where
  joined : (old a b c : List ℕ) → ((old ++ a) ++ b) ++ c ≡ old ++ (a ++ (b ++ c))
  joined old a b c = simp (append_assoc)
