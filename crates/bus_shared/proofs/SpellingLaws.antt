-- Laws of the bytes that keep the board, and of those that keep none.
use Rattle.std.proofs.Common.{◌≡◌, ℕ, ◌+◌, ◌<◌, ◌≤◌, Bool, true, false, eqb, List, [], ◌∷◌, ◌++◌, length, take, drop, Option, Some, None, Ok, is_some, IfSome, refl, sym, ap, subst, ◌∙◌, inl, inr, ◌⊎◌, arith}
use Rattle.std.specs.Int.{w16}
use Rattle.std.proofs.lemmas.List.{drop_at, length-append, length-take, take-append-drop, take_at}
use Rattle.fm_port.specs.Port as fm_ports
use Rattle.fm_port.specs.PortSpelling as fm_spelling
use Rattle.fm_port.proofs.PortBytes as fm_laws
use Rattle.fm_port.proofs.PortBytes.{table as fm_table}
use Rattle.md_fields.specs.Fields.{AreSized, AreWithin, sizes, spelling}
use Rattle.md_fields.specs.Items.{IsRight, Keeps}
use Rattle.md_fields.specs.Places.{IsBytes, Stand, number_at}
use Rattle.md_fields.proofs.Items.{refused_within}
use Rattle.md_fields.proofs.Flags.{flag_again, flag_back}
use Rattle.md_fields.proofs.Refusals.{failed}
use Rattle.md_fields.proofs.Standing.{long_as, long_as_sized, spelled, spelled_stand}
use Rattle.md_fields.proofs.Values.{not_refused, one_saved, refused_once}
use Rattle.md_word.specs.Coding.{flag_number}
use Rattle.md_word.specs.declared.unspell.Unspell.{Unspell}
use Rattle.md_word.specs.declared.unspell.Unspell.TheVariants.{Rule, NoMemory}
use Rattle.md_pads.specs.Recording.{Recorded}
use Rattle.psg_sound.specs.PortSpelling as psg_spelling
use Rattle.psg_sound.specs.declared.write.PsgWrite.{PsgWrite}
use Rattle.psg_sound.proofs.PortBytes as psg_laws
use Rattle.psg_sound.proofs.PortBytes.{table as psg_table}
use Rattle.vdp_ports.specs.Numbers.{numbers_of, vdp_of}
use Rattle.vdp_ports.specs.Saved.{vdp_fields}
use Rattle.vdp_ports.specs.Spelling as vdp_spelling
use Rattle.vdp_ports.specs.Spelling.{vdp_size}
use Rattle.vdp_ports.specs.Vdp.{Vdp}
use Rattle.vdp_ports.proofs.SavedLaws as vdp_laws
use Rattle.vdp_ports.proofs.SavedLaws.{table as vdp_table}
use Rattle.z80_parcel.specs.Parcels.{IsStore, Store, ram_size}
use Rattle.z80_parcel.specs.Spelling.{store_fields}
use Rattle.bus_shared.specs.Board.{Board}
use Rattle.bus_shared.specs.Saved.{board_from, lines_fields, lines_of}
use Rattle.bus_shared.specs.Spelling.{InvalidAt, InvalidFrom, IsLength, LinesInvalidAt, Parts, PartsInvalidAt, PortsInvalidAt, Spells, StoreInvalidAt, board_size, cut, following, lines_bytes, lines_offset, lines_size, ports_size, store_bytes, store_length, store_size}
use Rattle.bus_shared.specs.declared.saved_lines.SavedLines.{SavedLines}
use Rattle.bus_shared.proofs.SavedLaws as lines_laws
use Rattle.bus_shared.proofs.SavedLaws.{table as lines_table}
use Rattle.fm_port.specs.PortSpelling.{port_size as fm_size}
use Rattle.psg_sound.specs.PortSpelling.{port_size as psg_size}

-- ---- the bytes of each part

pub vdp_own : (at : ℕ) (pal : Bool) (bytes : List ℕ) (s : Vdp) → vdp_spelling.Spells at pal bytes s → bytes ≡ vdp_spelling.vdp_bytes s
vdp_own at pal bytes s p = p.keeps.all ∙ vdp_laws.same_bytes at 0 pal false (numbers_of s)

pub fm_own : (at : ℕ) (bytes : List ℕ) (p : fm_ports.Port) → fm_spelling.SpellsPort at bytes p → bytes ≡ fm_spelling.port_bytes p
unfolding spelling
fm_own at bytes p spells = spells.keeps.all

pub psg_own : (at : ℕ) (bytes : List ℕ) (ws : List PsgWrite) → psg_spelling.SpellsPort at bytes ws → bytes ≡ psg_spelling.port_bytes ws
unfolding spelling
psg_own at bytes ws spells = spells.keeps.all

pub lines_own : (at : ℕ) (bytes : List ℕ) (n : SavedLines) → Keeps (lines_fields at) bytes n → bytes ≡ lines_bytes n
lines_own at bytes n keeps = keeps.all ∙ lines_laws.same_bytes at 0 n

-- ---- their lengths

pub store_long : (store : Option Store) → IfSome store IsStore → length (store_bytes store) ≡ store_size (is_some store)
unfolding sizes AreSized
store_long None ok = long_as_sized (store_fields true None) tt
store_long (Some store) ok = long_as_sized (store_fields true (Some store)) (ok.ram, (tt, tt))

pub board_long : (has : Bool) → board_size has ≡ store_size has + board_size false
board_long true = refl
board_long false = refl

vdp_long : (at : ℕ) (pal : Bool) (bytes : List ℕ) (s : Vdp) → vdp_spelling.Spells at pal bytes s → length bytes ≡ vdp_size
vdp_long at pal bytes s p = ap length p.keeps.all ∙ long_as (vdp_fields at pal (numbers_of s)) p.keeps.within ∙ vdp_laws.fields_size at pal (numbers_of s)

fm_long : (at : ℕ) (bytes : List ℕ) (p : fm_ports.Port) → fm_spelling.SpellsPort at bytes p → length bytes ≡ fm_size
fm_long at bytes p spells =
    ap length spells.keeps.all ∙ long_as (fm_spelling.port_fields at (fm_spelling.saved_port_of p)) spells.keeps.within ∙ (fm_table at).sized (fm_spelling.saved_port_of p)

psg_long : (at : ℕ) (bytes : List ℕ) (ws : List PsgWrite) → psg_spelling.SpellsPort at bytes ws → length bytes ≡ psg_size
psg_long at bytes ws spells =
    ap length spells.keeps.all ∙ long_as (psg_spelling.port_fields at (psg_spelling.saved_port_of ws)) spells.keeps.within ∙ (psg_table at).sized (psg_spelling.saved_port_of ws)

lines_long : (at : ℕ) (bytes : List ℕ) (n : SavedLines) → Keeps (lines_fields at) bytes n → length bytes ≡ lines_size
lines_long at bytes n keeps = ap length keeps.all ∙ long_as (lines_fields at n) keeps.within ∙ lines_laws.fields_size at n

-- ---- bytes are cut into the parts that they are made of

cut_of : (a b c d e : List ℕ) → length b ≡ vdp_size → length c ≡ fm_size → length d ≡ psg_size → length e ≡ lines_size
    → cut (a ++ (b ++ (c ++ (d ++ e)))) ≡ record { store = a; vdp = b; fm = c; psg = d; lines = e }
cut_of a b c d e lb lc ld le =
    let rest = b ++ (c ++ (d ++ e)) in
    let bytes = a ++ rest in
    let n : length a ≡ store_length bytes =
    omega (arith, length-append a rest, length-append b (c ++ (d ++ e)), length-append c (d ++ e), length-append d e, lb, lc, ld, le) in
    let following : drop (store_length bytes) bytes ≡ rest = drop_at a rest (store_length bytes) n in
    let past_vdp : drop vdp_size (drop (store_length bytes) bytes) ≡ c ++ (d ++ e) = ap (drop vdp_size) following ∙ drop_at b (c ++ (d ++ e)) vdp_size lb in
    let past_fm : drop fm_size (drop vdp_size (drop (store_length bytes) bytes)) ≡ d ++ e = ap (drop fm_size) past_vdp ∙ drop_at c (d ++ e) fm_size lc in
    λ i. record {
      store = take_at a rest (store_length bytes) n i;
      vdp = (ap (take vdp_size) following ∙ take_at b (c ++ (d ++ e)) vdp_size lb) i;
      fm = (ap (take fm_size) past_vdp ∙ take_at c (d ++ e) fm_size lc) i;
      psg = (ap (take psg_size) past_fm ∙ take_at d e psg_size ld) i;
      lines = (ap (drop psg_size) past_fm ∙ drop_at d e psg_size ld) i;
    }

abbrev own : Board → Parts
own board = record {
  store = store_bytes board.store;
  vdp = vdp_spelling.vdp_bytes board.vdp;
  fm = fm_spelling.port_bytes board.fm;
  psg = psg_spelling.port_bytes board.psg;
  lines = lines_bytes (lines_of board);
}

cut_is : (at : ℕ) (pal : Bool) (bytes : List ℕ) (board : Board) → Spells at pal bytes board → cut bytes ≡ own board
cut_is at pal bytes board p =
    ap cut p.all
    ∙ cut_of (store_bytes board.store) (vdp_spelling.vdp_bytes board.vdp) (fm_spelling.port_bytes board.fm) (psg_spelling.port_bytes board.psg) (lines_bytes (lines_of board))
    (vdp_long at pal _ board.vdp p.vdp) (fm_long at _ board.fm p.fm) (psg_long at _ board.psg p.psg) (lines_long at _ (lines_of board) p.lines)

-- parts one after the other are the bytes
pub joined_again : (bytes : List ℕ) → (cut bytes).store ++ ((cut bytes).vdp ++ ((cut bytes).fm ++ ((cut bytes).psg ++ (cut bytes).lines))) ≡ bytes
joined_again bytes =
    let n = store_length bytes in
    let following = drop n bytes in
    let past_vdp = drop vdp_size following in
    let past_fm = drop fm_size past_vdp in
    ap (λ (l : List ℕ). take n bytes ++ (take vdp_size following ++ (take fm_size past_vdp ++ l))) (take-append-drop psg_size past_fm)
    ∙ ap (λ (l : List ℕ). take n bytes ++ (take vdp_size following ++ l)) (take-append-drop fm_size past_vdp)
    ∙ ap (λ (l : List ℕ). take n bytes ++ l) (take-append-drop vdp_size following)
    ∙ take-append-drop n bytes

length_by : (store : Option Store) (n : ℕ) → n ≡ store_size (is_some store) + board_size false → (n ≡ board_size false) ⊎ (n ≡ board_size true)
length_by None n e = inl e
length_by (Some store) n e = inr e

spelled_length : (at : ℕ) (pal : Bool) (bytes : List ℕ) (board : Board) → Spells at pal bytes board → IsLength bytes
spelled_length at pal bytes board p =
    let a = store_bytes board.store in
    let b = vdp_spelling.vdp_bytes board.vdp in
    let c = fm_spelling.port_bytes board.fm in
    let d = psg_spelling.port_bytes board.psg in
    let e = lines_bytes (lines_of board) in
    length_by board.store (length bytes)
    (ap length p.all
    ∙ omega (
      arith,
      length-append a (b ++ (c ++ (d ++ e))),
      length-append b (c ++ (d ++ e)),
      length-append c (d ++ e),
      length-append d e,
      store_long board.store p.store,
      vdp_long at pal b board.vdp p.vdp,
      fm_long at c board.fm p.fm,
      psg_long at d board.psg p.psg,
      lines_long at e (lines_of board) p.lines,
    ))

-- ---- what is spelled is refused nowhere

store_right : (store : Option Store) → IfSome store IsStore → (p : ℕ) → StoreInvalidAt (store_bytes store) p → ⊥
unfolding Stand spelling AreWithin
store_right None ok p invalid = absurd (omega (arith, invalid.0))
store_right (Some store) ok p invalid =
    let fs = store_fields true (Some store) in
    let there : Stand 0 fs (spelling fs) = spelled_stand fs (spelling fs) (ok.ram, (omega (arith, ok.bank), tt)) refl in
    absurd (omega (arith, there.1.0, invalid.1, ok.bank))

none_here : (at : ℕ) (pal : Bool) (start : ℕ) (bytes : List ℕ) (board : Board) (place : ℕ) → Spells at pal bytes board → PartsInvalidAt at pal start (own board) place → ⊥
none_here at pal start bytes board place p (inl w) = store_right board.store p.store w.0 w.1
none_here at pal start bytes board place p (inr (none, inl w)) =
    not_refused (vdp_table at pal) (vdp_spelling.vdp_bytes board.vdp) (numbers_of board.vdp) p.vdp.keeps p.vdp.right w.0 w.1
none_here at pal start bytes board place p (inr (none, inr (no_vdp, inl w))) = fm_laws.right_nowhere at (fm_spelling.port_bytes board.fm) board.fm p.fm w.0 w.1
none_here at pal start bytes board place p (inr (none, inr (no_vdp, inr (no_fm, inl w)))) =
    psg_laws.right_nowhere at (psg_spelling.port_bytes board.psg) board.psg p.psg w.0 w.1
none_here at pal start bytes board place p (inr (none, inr (no_vdp, inr (no_fm, inr (no_psg, inl w))))) =
    not_refused (lines_table at) (lines_bytes (lines_of board)) (lines_of board) p.lines p.right w.0 w.1
none_here at pal start bytes board place p (inr (none, inr (no_vdp, inr (no_fm, inr (no_psg, inr w))))) = w.1

pub right_nowhere : (at : ℕ) (pal : Bool) (bytes : List ℕ) (board : Board) → Spells at pal bytes board → (place : ℕ) → InvalidAt at pal bytes place → ⊥
right_nowhere at pal bytes board p place (inl w) = w.0 (spelled_length at pal bytes board p)
right_nowhere at pal bytes board p place (inr w) =
    none_here at pal (store_length bytes) bytes board place p (subst (λ (parts : Parts). PartsInvalidAt at pal (store_length bytes) parts place) (cut_is at pal bytes board p) w.1)

-- ---- there is one offset of a refusal

from_once : (start : ℕ) (Invalid Following : ℕ → Type 0) → ((a b : ℕ) → Invalid a → Invalid b → a ≡ b) → ((a b : ℕ) → Following a → Following b → a ≡ b)
    → (p q : ℕ) → InvalidFrom start Invalid Following p → InvalidFrom start Invalid Following q → p ≡ q
from_once start Invalid Following once following p q (inl x) (inl y) = x.2 ∙ ap (λ (n : ℕ). start + n) (once x.0 y.0 x.1 y.1) ∙ sym y.2
from_once start Invalid Following once following p q (inl x) (inr y) = absurd (y.0 x.0 x.1)
from_once start Invalid Following once following p q (inr x) (inl y) = absurd (x.0 y.0 y.1)
from_once start Invalid Following once following p q (inr x) (inr y) = following p q x.1 y.1

store_once : (bytes : List ℕ) (p q : ℕ) → StoreInvalidAt bytes p → StoreInvalidAt bytes q → p ≡ q
store_once bytes p q a b = a.2 ∙ sym b.2

parts_once : (at : ℕ) (pal : Bool) (start : ℕ) (parts : Parts) (p q : ℕ) → PartsInvalidAt at pal start parts p → PartsInvalidAt at pal start parts q → p ≡ q
parts_once at pal start parts =
    from_once 0 _ _ (store_once parts.store)
    (from_once start _ _ (refused_once (vdp_table at pal) parts.vdp)
    (from_once (start + vdp_size) _ _ (refused_once (fm_table at) parts.fm)
    (from_once (start + vdp_size + fm_size) _ _ (refused_once (psg_table at) parts.psg)
    (from_once (start + vdp_size + lines_offset) _ _ (refused_once (lines_table at) parts.lines) (λ p q a b. absurd a)))))

pub invalid_once : (at : ℕ) (pal : Bool) (bytes : List ℕ) (p q : ℕ) → InvalidAt at pal bytes p → InvalidAt at pal bytes q → p ≡ q
invalid_once at pal bytes p q (inl a) (inl b) = a.1 ∙ sym b.1
invalid_once at pal bytes p q (inl a) (inr b) = absurd (a.0 b.0)
invalid_once at pal bytes p q (inr a) (inl b) = absurd (b.0 a.0)
invalid_once at pal bytes p q (inr a) (inr b) = parts_once at pal (store_length bytes) (cut bytes) p q a.1 b.1

-- ---- bytes keep one board over a recording

vdp_once : (at : ℕ) (pal : Bool) (bytes : List ℕ) (s t : Vdp) → vdp_spelling.Spells at pal bytes s → vdp_spelling.Spells at pal bytes t → s ≡ t
vdp_once at pal bytes s t p q =
    sym (vdp_laws.vdp_again s) ∙ ap (λ (b : Bool). vdp_of b (numbers_of s)) p.region ∙ vdp_laws.no_other at pal bytes (numbers_of s) t p.keeps q

store_same : (s t : Option Store) → IfSome s IsStore → IfSome t IsStore → store_bytes s ≡ store_bytes t → s ≡ t
unfolding Stand spelling AreWithin
store_same None None p q e = refl
store_same None (Some t) p q e = absurd (omega (arith, ap length e, store_long (Some t) q))
store_same (Some s) None p q e = absurd (omega (arith, ap length e, store_long (Some s) p))
store_same (Some s) (Some t) p q e =
    let fs = store_fields true (Some s) in
    let gs = store_fields true (Some t) in
    let one : Stand 0 fs (spelling fs) = spelled_stand fs (spelling fs) (p.ram, (omega (arith, p.bank), tt)) refl in
    let two : Stand 0 gs (spelling fs) = spelled_stand gs (spelling fs) (q.ram, (omega (arith, q.bank), tt)) (sym e) in
    λ i. Some (record { ram = (one.0 ∙ sym two.0) i; bank = (one.1.0 ∙ sym two.1.0) i })

flag_same : (a b : Bool) → eqb (flag_number a) 1 ≡ eqb (flag_number b) 1 → a ≡ b
flag_same a b e = sym (flag_again a) ∙ e ∙ flag_again b

pub spelled_once : (at : ℕ) (pal : Bool) (bytes : List ℕ) (s t : Board) → Spells at pal bytes s → Spells at pal bytes t → s.recording ≡ t.recording → s ≡ t
spelled_once at pal bytes s t p q recording =
    let parts : own s ≡ own t = sym (cut_is at pal bytes s p) ∙ cut_is at pal bytes t q in
    let vdp = vdp_once at pal _ s.vdp t.vdp p.vdp (subst (λ (l : List ℕ). vdp_spelling.Spells at pal l t.vdp) (sym (ap (λ (x : Parts). x.vdp) parts)) q.vdp) in
    let fm = fm_laws.spelled_once at _ s.fm t.fm p.fm (subst (λ (l : List ℕ). fm_spelling.SpellsPort at l t.fm) (sym (ap (λ (x : Parts). x.fm) parts)) q.fm) in
    let psg = psg_laws.spelled_once at _ s.psg t.psg p.psg (subst (λ (l : List ℕ). psg_spelling.SpellsPort at l t.psg) (sym (ap (λ (x : Parts). x.psg) parts)) q.psg) in
    let store = store_same s.store t.store p.store q.store (ap (λ (x : Parts). x.store) parts) in
    let lines : lines_of s ≡ lines_of t =
    one_saved (lines_table at) _ (lines_of s) (lines_of t) p.lines (subst (λ (l : List ℕ). Keeps (lines_fields at) l (lines_of t)) (sym (ap (λ (x : Parts). x.lines) parts)) q.lines) in
    let request = flag_same s.request t.request (ap (λ (n : SavedLines). eqb n.bus_request 1) lines) in
    let reset = flag_same s.reset t.reset (ap (λ (n : SavedLines). eqb n.reset 1) lines) in
    λ i. record {
      recording = recording i;
      pads = (ap (λ (n : SavedLines). n.pads1) lines i, ap (λ (n : SavedLines). n.pads2) lines i);
      port1 = record {
        value = ap (λ (n : SavedLines). n.value1) lines i;
        control = ap (λ (n : SavedLines). n.control1) lines i;
        count = ap (λ (n : SavedLines). n.count1) lines i;
        fall = ap (λ (n : SavedLines). n.fall1) lines i;
      };
      port2 = record {
        value = ap (λ (n : SavedLines). n.value2) lines i;
        control = ap (λ (n : SavedLines). n.control2) lines i;
        count = ap (λ (n : SavedLines). n.count2) lines i;
        fall = ap (λ (n : SavedLines). n.fall2) lines i;
      };
      psg = psg i;
      fm = fm i;
      request = request i;
      reset = reset i;
      resets = ap (λ (n : SavedLines). n.resets) lines i;
      store = store i;
      vdp = vdp i;
    }

-- ---- offsets are near

pub vdp_near : (at : ℕ) (pal : Bool) (bytes : List ℕ) (place : ℕ) → vdp_spelling.InvalidAt at pal bytes place → place ≤ vdp_size
vdp_near at pal bytes place invalid = refused_within (vdp_fields at pal) bytes vdp_size (vdp_laws.fields_size at pal) place invalid

pub psg_near : (at : ℕ) (bytes : List ℕ) (place : ℕ) → psg_spelling.PortInvalidAt at bytes place → place ≤ psg_size
psg_near at bytes place invalid = refused_within (psg_spelling.port_fields at) bytes psg_size (psg_table at).sized place invalid

-- ---- what the bytes hold

pub lines_back : (recording : Recorded) (store : Option Store) (vdp : Vdp) (fm : fm_ports.Port) (psg : List PsgWrite) (n : SavedLines) → lines_laws.Flags n
    → lines_of (board_from recording store vdp fm psg n) ≡ n
lines_back recording store vdp fm psg n flags = λ i. record {
  bus_request = flag_back n.bus_request flags.bus_request i;
  reset = flag_back n.reset flags.reset i;
  resets = n.resets;
  value1 = n.value1;
  control1 = n.control1;
  value2 = n.value2;
  control2 = n.control2;
  pads1 = n.pads1;
  pads2 = n.pads2;
  count1 = n.count1;
  fall1 = n.fall1;
  count2 = n.count2;
  fall2 = n.fall2;
}

-- the parts of bytes that each keep a part of a board
pub record AreKept (at : ℕ) (pal : Bool) (parts : Parts) (store : Option Store) (vdp : Vdp) (fm : fm_ports.Port) (psg : List PsgWrite) (n : SavedLines) : Type 0 where
  pub store_is : parts.store ≡ store_bytes store
  pub store_fits : IfSome store IsStore
  pub vdp_is : vdp_spelling.Spells at pal parts.vdp vdp
  pub fm_is : fm_spelling.SpellsPort at parts.fm fm
  pub psg_is : psg_spelling.SpellsPort at parts.psg psg
  pub lines_are : Keeps (lines_fields at) parts.lines n
  pub lines_right : IsRight (lines_fields at) n

pub whole : (at : ℕ) (pal : Bool) (bytes : List ℕ) (recording : Recorded) (store : Option Store) (vdp : Vdp) (fm : fm_ports.Port) (psg : List PsgWrite) (n : SavedLines)
    → AreKept at pal (cut bytes) store vdp fm psg n → Spells at pal bytes (board_from recording store vdp fm psg n)
whole at pal bytes recording store vdp fm psg n p =
    let vdp_e = vdp_own at pal (cut bytes).vdp vdp p.vdp_is in
    let fm_e = fm_own at (cut bytes).fm fm p.fm_is in
    let psg_e = psg_own at (cut bytes).psg psg p.psg_is in
    let back : n ≡ lines_of (board_from recording store vdp fm psg n) = sym (lines_back recording store vdp fm psg n (lines_laws.flags_of at n p.lines_right)) in
    let lines_e : (cut bytes).lines ≡ lines_bytes (lines_of (board_from recording store vdp fm psg n)) = lines_own at (cut bytes).lines n p.lines_are ∙ ap lines_bytes back in
    let keeps : Keeps (lines_fields at) (lines_bytes (lines_of (board_from recording store vdp fm psg n))) n = subst (λ (l : List ℕ). Keeps (lines_fields at) l n) lines_e p.lines_are in
    record {
      all = sym (joined_again bytes) ∙ (λ i. p.store_is i ++ (vdp_e i ++ (fm_e i ++ (psg_e i ++ lines_e i))));
      store = p.store_fits;
      vdp = subst (λ (l : List ℕ). vdp_spelling.Spells at pal l vdp) vdp_e p.vdp_is;
      fm = subst (λ (l : List ℕ). fm_spelling.SpellsPort at l fm) fm_e p.fm_is;
      psg = subst (λ (l : List ℕ). psg_spelling.SpellsPort at l psg) psg_e p.psg_is;
      lines = subst (λ (m : SavedLines). Keeps (lines_fields at) (lines_bytes (lines_of (board_from recording store vdp fm psg n))) m) back keeps;
      right = subst (λ (m : SavedLines). IsRight (lines_fields at) m) back p.lines_right;
    }

-- ---- the answers of the parts

pub ok_not : {T : Type 0} (value : T) (f : Unspell) → Ok value ≡ failed f → ⊥
ok_not value f e = absurd cc

pub no_memory_not : (place : ℕ) → NoMemory ≡ Rule place → ⊥
no_memory_not place e = absurd cc

pub place_is : (p q : ℕ) → Rule p ≡ Rule q → p ≡ q
place_is p q e = cc

-- a refusal after a start is one of what is there
pub after_rule : (start : ℕ) (fault : Unspell) (place : ℕ) → following start fault ≡ Rule place → (p : ℕ) × (fault ≡ Rule p) × (place ≡ start + p)
after_rule start (Rule q) place e = (q, refl, sym (place_is (start + q) place e))
after_rule start NoMemory place e = absurd (no_memory_not place e)

-- the ports in the bytes after the VDP's
abbrev pub PortsIn : ℕ → List ℕ → ℕ → Type 0
PortsIn at bytes = PortsInvalidAt at 0 (take fm_size bytes) (take psg_size (drop fm_size bytes)) (drop psg_size (drop fm_size bytes))

moved_from : (start far begin : ℕ) → begin ≡ far + start → (Invalid Following Later : ℕ → Type 0) → ((place : ℕ) → Following place → Later (far + place)) → (place : ℕ)
    → InvalidFrom start Invalid Following place → InvalidFrom begin Invalid Later (far + place)
moved_from start far begin e Invalid Following Later later place (inl x) = inl (x.0, x.1, omega (arith, x.2, e))
moved_from start far begin e Invalid Following Later later place (inr x) = inr (x.0, later place x.1)

abbrev LinesFrom : ℕ → ℕ → List ℕ → ℕ → Type 0
LinesFrom at start lines = InvalidFrom (start + lines_offset) (LinesInvalidAt at lines) (λ place. ⊥)

abbrev PsgFrom : ℕ → ℕ → List ℕ → List ℕ → ℕ → Type 0
PsgFrom at start psg lines = InvalidFrom (start + fm_size) (psg_spelling.PortInvalidAt at psg) (LinesFrom at start lines)

pub ports_after : (at far : ℕ) (fm psg lines : List ℕ) (place : ℕ) → PortsInvalidAt at 0 fm psg lines place → PortsInvalidAt at far fm psg lines (far + place)
ports_after at far fm psg lines =
    moved_from 0 far far (omega arith) (fm_spelling.PortInvalidAt at fm) (PsgFrom at 0 psg lines) (PsgFrom at far psg lines)
    (moved_from (0 + fm_size) far (far + fm_size) (omega arith) (psg_spelling.PortInvalidAt at psg) (LinesFrom at 0 lines) (LinesFrom at far lines)
    (moved_from (0 + lines_offset) far (far + lines_offset) (omega arith) (LinesInvalidAt at lines) (λ n. ⊥) (λ n. ⊥) (λ place no. no)))

-- RAM and bank register
pub held_found : (bytes ram : List ℕ) (bank : ℕ) (store : Store) → IsBytes bytes → length bytes ≡ store_size true → ram ≡ take ram_size bytes → bank ≡ number_at w16 ram_size bytes → bank < 512
    → store ≡ record { ram = ram; bank = bank } → (bytes ≡ store_bytes (Some store)) × IsStore store
unfolding Stand
held_found bytes ram bank store fits long front back nine is =
    let parts : store ≡ record { ram = take ram_size bytes; bank = number_at w16 ram_size bytes } = is ∙ (λ i. record { ram = front i; bank = back i }) in
    let there : Stand 0 (store_fields true (Some (record { ram = take ram_size bytes; bank = number_at w16 ram_size bytes }))) bytes = (refl, (refl, long)) in (
      sym (spelled (store_fields true (Some (record { ram = take ram_size bytes; bank = number_at w16 ram_size bytes }))) bytes fits there)
          ∙ ap (λ (s : Store). store_bytes (Some s)) (sym parts),
      subst IsStore (sym parts) (record { ram = omega (arith, length-take ram_size bytes, long); bank = omega (arith, back, nine) }),
    )

pub held_right : (bytes : List ℕ) (bank : ℕ) → bank ≡ number_at w16 ram_size bytes → bank < 512 → (place : ℕ) → StoreInvalidAt bytes place → ⊥
held_right bytes bank back nine place invalid = absurd (omega (arith, back, nine, invalid.1))

pub held_invalid : (bytes : List ℕ) (bank place : ℕ) → length bytes ≡ store_size true → bank ≡ number_at w16 ram_size bytes → 512 ≤ bank → place ≡ ram_size → StoreInvalidAt bytes place
held_invalid bytes bank place long back more e = (omega (arith, long), omega (arith, back, more), e)

-- no bytes keep no RAM
pub empty_store : (bytes : List ℕ) → length bytes ≡ 0 → bytes ≡ store_bytes None
unfolding spelling
empty_store [] e = refl
empty_store (b ∷ bytes) e = absurd (omega (arith, e))

-- ---- refusals of each part are refusals of the whole

pub vdp_exit : (at : ℕ) (pal : Bool) (bytes : List ℕ) (p place : ℕ) → IsLength bytes → ((q : ℕ) → StoreInvalidAt (cut bytes).store q → ⊥)
    → vdp_spelling.InvalidAt at pal (cut bytes).vdp p → place ≡ store_length bytes + p → InvalidAt at pal bytes place
vdp_exit at pal bytes p place long none invalid e = inr (long, inr (none, inl (p, invalid, e)))

pub ports_exit : (at : ℕ) (pal : Bool) (bytes : List ℕ) (p place : ℕ) → IsLength bytes → ((q : ℕ) → StoreInvalidAt (cut bytes).store q → ⊥)
    → ((q : ℕ) → vdp_spelling.InvalidAt at pal (cut bytes).vdp q → ⊥) → PortsIn at (drop vdp_size (drop (store_length bytes) bytes)) p
    → place ≡ store_length bytes + vdp_size + p → InvalidAt at pal bytes place
ports_exit at pal bytes p place long none no_vdp invalid e =
    subst (InvalidAt at pal bytes) (sym e)
    (inr (long, inr (none, inr (no_vdp, ports_after at (store_length bytes + vdp_size) (cut bytes).fm (cut bytes).psg (cut bytes).lines p invalid))))

pub ports_near : (at : ℕ) (fm psg lines : List ℕ) (place : ℕ) → PortsInvalidAt at 0 fm psg lines place → place ≤ ports_size
ports_near at fm psg lines place (inl w) = omega (arith, w.2, refused_within (fm_spelling.port_fields at) fm fm_size (fm_table at).sized w.0 w.1)
ports_near at fm psg lines place (inr (no_fm, inl w)) = omega (arith, w.2, psg_near at psg w.0 w.1)
ports_near at fm psg lines place (inr (no_fm, inr (no_psg, inl w))) = omega (arith, w.2, refused_within (lines_fields at) lines lines_size (lines_laws.fields_size at) w.0 w.1)
ports_near at fm psg lines place (inr (no_fm, inr (no_psg, inr w))) = absurd w.1

-- ---- a refusal that is not out of memory

pub fault_only : (at : ℕ) (pal : Bool) (bytes : List ℕ) (board : Board) → Spells at pal bytes board → (fault : Unspell)
    → ((place : ℕ) → fault ≡ Rule place → InvalidAt at pal bytes place) → (fault ≡ NoMemory → ⊥) → ⊥
fault_only at pal bytes board spells (Rule place) invalid memory = right_nowhere at pal bytes board spells place (invalid place refl)
fault_only at pal bytes board spells NoMemory invalid memory = memory refl

pub fault_refused : (at : ℕ) (pal : Bool) (bytes : List ℕ) (place : ℕ) → InvalidAt at pal bytes place → (fault : Unspell)
    → ((p : ℕ) → fault ≡ Rule p → InvalidAt at pal bytes p) → (fault ≡ NoMemory → ⊥) → fault ≡ Rule place
fault_refused at pal bytes place there (Rule p) invalid memory = ap (λ (q : ℕ). Rule q) (invalid_once at pal bytes p place (invalid p refl) there)
fault_refused at pal bytes place there NoMemory invalid memory = absurd (memory refl)
