-- Laws of what a saved state keeps of the VDP renderer.
use Rattle.std.proofs.Common.{◌≡◌, ℕ, zero, suc, ◌+◌, ◌-◌, ◌*◌, ◌/◌, ◌%◌, ◌<◌, ◌≤◌, ◌==◌, min, Bool, true, false, List, length, drop, get_or, slice_index, refl, sym, ap, subst, ◌∙◌, ◌^◌, arith}
use Rattle.std.proofs.lemmas.Bool.{and_parts, eq-eqb, eqb-true, le-leb, leb-true, lt-ltb, ltb-true, and_from}
use Rattle.std.proofs.lemmas.List.{get_or-drop, length-drop}
use Rattle.std.proofs.lemmas.List.Elements.{All-from_get_or, All-get_or}
use Rattle.std.proofs.lemmas.List.Sums.{AllPass-from_list_all, list_all-from_AllPass}
use Rattle.md_fields.specs.Fields.{AllHold, AreWithin, sizes, spelling}
use Rattle.md_fields.specs.Items.{IsRight, Keeps}
use Rattle.md_fields.specs.Padding.{are_zeros}
use Rattle.md_fields.proofs.Flags.{flag_again, flag_back, flag_byte, flag_small}
use Rattle.md_fields.proofs.Items.{none_invalid, rules_hold}
use Rattle.md_fields.proofs.Values.{Table, list_in, number_in, one_saved, read_back, rule_at, values_at}
use Rattle.md_word.specs.Clock.{line}
use Rattle.vdp_chip.specs.RendererState.{RendererState, IsRendererState, undrawn_from}
use Rattle.md_word.specs.Region.{lines, rows, scanline_length}
use Rattle.vdp_chip.specs.Picture.{memory_length}
use Rattle.vdp_chip.specs.Saved.{RendererStateNumbers, renderer_state_fields, renderer_state_of, fields_by, is_picture, numbers_of}
use Rattle.vdp_chip.specs.Spelling.{IsDrained, IsReady, Spells, drained, renderer_state_bytes, renderer_state_size}
use Rattle.vdp_chip.proofs.Lined.{scanline_above}

-- the bytes depend neither on the cycle nor on whether the picture's rule holds
pub bytes_by : (at other : ℕ) (holds more : Bool) (n : RendererStateNumbers) → spelling (fields_by at holds n) ≡ spelling (fields_by other more n)
unfolding spelling
bytes_by at other holds more n = refl

-- nor on the region
pub same_bytes : (at other : ℕ) (pal region : Bool) (n : RendererStateNumbers) → spelling (renderer_state_fields at pal n) ≡ spelling (renderer_state_fields other region n)
same_bytes at other pal region n = bytes_by at other (is_picture at pal n.picture) (is_picture other region n.picture) n

pub size_by : (at : ℕ) (holds : Bool) (n : RendererStateNumbers) → sizes (fields_by at holds n) ≡ renderer_state_size
unfolding sizes
size_by at holds n = refl

pub fields_size : (at : ℕ) (pal : Bool) (n : RendererStateNumbers) → sizes (renderer_state_fields at pal n) ≡ renderer_state_size
fields_size at pal n = size_by at (is_picture at pal n.picture) n

-- the fields, and the numbers of their values
pub table : (at : ℕ) (pal : Bool) → Table renderer_state_size (renderer_state_fields at pal)
unfolding sizes values_at
table at pal = record {
  back = λ values. record {
    next = number_in values 0;
    overflow = number_in values 1;
    collision = number_in values 2;
    picture = list_in values 3;
  };
  again = λ s. refl;
  alike = λ s t bytes. refl;
  sized = λ s. refl;
}

-- a chip is that of its numbers
renderer_state_again : (d : RendererState) → IsDrained d → renderer_state_of d.pal (numbers_of d) ≡ d
renderer_state_again d is = λ i. record {
  next = d.next;
  note = record { overflow = flag_again d.note.overflow i; collision = flag_again d.note.collision i };
  has_view = sym is.view i;
  picture = d.picture;
  frame = sym is.frame i;
  pal = d.pal;
}

-- the numbers that are right are those of their chip
numbers_back : (at : ℕ) (pal : Bool) (n : RendererStateNumbers) → IsRight (renderer_state_fields at pal) n → numbers_of (renderer_state_of pal n) ≡ n
numbers_back at pal n right =
    let note = and_parts _ _ (rule_at 0 (renderer_state_fields at pal n) right 1) in
    λ i. record n {
      overflow = flag_back n.overflow (leb-true n.overflow 1 note.0) i;
      collision = flag_back n.collision (leb-true n.collision 1 note.1) i;
    }

-- ---- what bytes keep

pub read_spells : (at : ℕ) (pal : Bool) (bytes : List ℕ) (n : RendererStateNumbers) → Keeps (renderer_state_fields at pal) bytes n → IsRight (renderer_state_fields at pal) n → Spells at pal bytes (renderer_state_of pal n)
read_spells at pal bytes n keeps right =
    let both = read_back (table at pal) numbers_of (renderer_state_of pal) bytes n (numbers_back at pal n right) keeps right in
    record {
      keeps = both.0;
      right = both.1;
      region = refl;
      drained = record { view = refl; frame = refl };
    }

pub no_other : (at : ℕ) (pal : Bool) (bytes : List ℕ) (n : RendererStateNumbers) (d : RendererState) → Keeps (renderer_state_fields at pal) bytes n → Spells at pal bytes d → renderer_state_of pal n ≡ d
no_other at pal bytes n d keeps p =
    ap (renderer_state_of pal) (one_saved (table at pal) bytes n (numbers_of d) keeps p.keeps)
    ∙ ap (λ (b : Bool). renderer_state_of b (numbers_of d)) (sym p.region) ∙ renderer_state_again d p.drained

-- ---- undrawn rows

-- the line of the last cycle below the event is that of the last one below `at`
same_line : (at next : ℕ) → next % line ≡ 0 → at ≤ next → next < at + line → 0 < at → (next - 1) / line ≡ (at - 1) / line
same_line at next m from near some = omega (arith, m, from, near, some)

undrawn_same : (at next : ℕ) (pal : Bool) → next % line ≡ 0 → at ≤ next → next < at + line → undrawn_from next pal ≡ undrawn_from at pal
undrawn_same zero next pal m from near = let none : next ≡ 0 = omega (arith, m, near) in ap (λ (n : ℕ). undrawn_from n pal) none
undrawn_same (suc below) next pal m from near =
    scanline_above next pal (omega (arith, from))
    ∙ ap (λ (l : ℕ). min (l % lines pal + 1) (rows pal)) (same_line (suc below) next m from near (omega arith))
    ∙ sym (scanline_above (suc below) pal (omega arith))

zero_at : (k : ℕ) (l : List ℕ) (n : ℕ) → are_zeros (drop k l) ≡ true → k ≤ n → n < length l → slice_index l n ≡ 0
zero_at k l n e from below =
    let all = AllPass-from_list_all (λ m. m == 0) (drop k l) e in
    let lt : n - k < length (drop k l) = omega (arith, length-drop k l, from, below) in
    let here : get_or (drop k l) (n - k) 0 ≡ 0 = eqb-true _ 0 (All-get_or (λ m. (m == 0) ≡ true) (drop k l) (n - k) 0 lt all) in
    ap (λ (i : ℕ). get_or l i 0) (omega (arith, from)) ∙ sym (get_or-drop k l (n - k) 0) ∙ here

-- the chip that bytes keep has its lengths, and its undrawn rows are 0
pub valid : (at : ℕ) (pal : Bool) (bytes : List ℕ) (n : RendererStateNumbers) → Keeps (renderer_state_fields at pal) bytes n → IsRight (renderer_state_fields at pal) n → IsRendererState (renderer_state_of pal n)
unfolding AllHold AreWithin
valid at pal bytes n keeps right =
    let h = rules_hold 0 (renderer_state_fields at pal n) right in
    let first = and_parts _ _ h.0 in
    let soon = and_parts _ _ first.1 in
    let m = eqb-true (n.next % line) 0 first.0 in
    let from = leb-true at n.next soon.0 in
    let near = ltb-true (n.next - at) line soon.1 in
    let undrawn = undrawn_same at n.next pal m from (omega (arith, from, near)) in
    let whole : length n.picture ≡ memory_length = keeps.within.1.1.1.0 in
    record {
      picture = whole;
      frame = tt;
      at_line = m;
      undrawn = λ k le lt. zero_at (scanline_length * undrawn_from at pal) n.picture k h.1.1.1.0 (omega (arith, le, undrawn)) (omega (arith, lt, whole));
    }

-- ---- what is spelled is read again

zeros_from : (k : ℕ) (l : List ℕ) → ((n : ℕ) → k ≤ n → n < length l → slice_index l n ≡ 0) → are_zeros (drop k l) ≡ true
zeros_from k l h =
    list_all-from_AllPass (λ m. m == 0) (drop k l)
    (All-from_get_or (λ m. (m == 0) ≡ true) (drop k l) 0 (λ i lt.
    eq-eqb _ 0 (get_or-drop k l i 0 ∙ h (k + i) (omega arith) (omega (arith, length-drop k l, lt)))))

right_to : (at : ℕ) (d : RendererState) → IsRendererState d → IsReady at d → IsRight (renderer_state_fields at d.pal) (numbers_of d)
unfolding AllHold
right_to at d ok is =
    let undrawn = undrawn_same at d.next d.pal ok.at_line is.from is.near in
    none_invalid 0 (renderer_state_fields at d.pal (numbers_of d)) (
      and_from _ _ (eq-eqb (d.next % line) 0 ok.at_line) (and_from _ _ (le-leb at d.next is.from) (lt-ltb (d.next - at) line (omega (arith, is.from, is.near)))),
      (
        and_from _ _ (flag_small d.note.overflow) (flag_small d.note.collision),
        (
          refl,
          (
            zeros_from (scanline_length * undrawn_from at d.pal) d.picture (λ n from below. ok.undrawn n (omega (arith, from, undrawn)) (omega (arith, below, ok.picture))),
            tt,
          ),
        ),
      ),
    )

within : (at : ℕ) (d : RendererState) → IsRendererState d → d.next < 2 ^ 64 → AreWithin (renderer_state_fields at d.pal (numbers_of d))
unfolding AreWithin
within at d ok small = (small, (flag_byte d.note.overflow, (flag_byte d.note.collision, (ok.picture, tt))))

pub spelled_back : (at : ℕ) (d : RendererState) → IsRendererState d → d.next < 2 ^ 64 → IsReady at d → Spells at d.pal (renderer_state_bytes d) (drained d)
spelled_back at d ok small is = record {
  keeps = record { within = within at d ok small; all = same_bytes 0 at false d.pal (numbers_of d) };
  right = right_to at d ok is;
  region = refl;
  drained = record { view = refl; frame = refl };
}

-- ---- a chip that bytes keep

pub spelled_renderer_state : (at : ℕ) (pal : Bool) (bytes : List ℕ) (d : RendererState) → Spells at pal bytes d → IsRendererState d
spelled_renderer_state at pal bytes d p =
    subst IsRendererState (ap (λ (b : Bool). renderer_state_of b (numbers_of d)) (sym p.region) ∙ renderer_state_again d p.drained) (valid at pal bytes (numbers_of d) p.keeps p.right)

pub spelled_ready : (at : ℕ) (pal : Bool) (bytes : List ℕ) (d : RendererState) → Spells at pal bytes d → IsReady at d
unfolding AllHold
spelled_ready at pal bytes d p =
    let h = rules_hold 0 (renderer_state_fields at pal (numbers_of d)) p.right in
    let soon = and_parts _ _ (and_parts _ _ h.0).1 in
    let from : at ≤ d.next = leb-true at d.next soon.0 in
    let near : d.next - at < line = ltb-true (d.next - at) line soon.1 in
    record { from = from; near = omega arith }
