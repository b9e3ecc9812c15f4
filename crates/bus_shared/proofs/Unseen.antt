-- No access observes that a fill or copy was settled earlier.
use Rattle.std.proofs.Common.{◌≡◌, ◌∙◌, refl, sym, ap, ℕ, zero, suc, ◌%◌, ◌≤◌, ◌==◌, nat_lt, Bool, true, false, if◌then◌else◌, List, length, slice_index, inl, inr, arith}
use Rattle.std.proofs.lemmas.Bool.{cases_lt}
use Rattle.vdp_ports.specs.Vdp.{Vdp, is_shown}
use Rattle.vdp_ports.specs.Control.{acknowledged, controlled, started_by, status_read}
use Rattle.vdp_ports.specs.Data.{accessed, read, transferred, written}
use Rattle.vdp_dma.specs.Settling.{advanced, done, due, finished, moved, running, settled, step, vram_after, write}
use Rattle.vdp_dma.proofs.Counts.{count}
use Rattle.vdp_dma.proofs.Same.{settled_same}
use Rattle.vdp_dma.proofs.Settled.{by-none, by-some, settled_twice}
use Rattle.vdp_planes.specs.declared.view.SpriteNote.{SpriteNote}
use Rattle.vdp_time.specs.Lines.{hv, line_started, v_blank}
use Rattle.bus_shared.specs.Settled.{SeesNoSettling}
use Rattle.bus_shared.specs.Video.{is_wide, joined, line_begun, port_read, port_transfer, port_word, port_written, status_at, with_cost, word_cost}
use Rattle.bus_shared.specs.declared.port.VideoPort.{VideoPort}
use Rattle.bus_shared.specs.declared.port.VideoPort.TheVariants.{Data, Control, Counter, Sound, Unused}

-- the fields of the interrupts and of the display, at which settling does not look
record Marks : Type 0 where
  vertical : Bool
  horizontal : Bool
  line_counter : ℕ
  int_from : ℕ
  int_to : ℕ
  pal : Bool
  tall : Bool

abbrev marks_of : Vdp → Marks
marks_of s = record { vertical = s.vertical; horizontal = s.horizontal; line_counter = s.line_counter; int_from = s.int_from; int_to = s.int_to; pal = s.pal; tall = s.tall }

abbrev marked : Vdp → Marks → Vdp
marked s m = record s { vertical = m.vertical; horizontal = m.horizontal; line_counter = m.line_counter; int_from = m.int_from; int_to = m.int_to; pal = m.pal; tall = m.tall }

-- the registers and these fields, which settling leaves
abbrev Kept : Type 0
Kept = List ℕ × Marks

abbrev kept_of : Vdp → Kept
kept_of s = (s.registers, marks_of s)

pub same-if : {A : Type 0} (f : Vdp → A) (b : Bool) (s t : Vdp) (x : A) → f s ≡ x → f t ≡ x → f (if b then s else t) ≡ x
same-if f true s t x h k = h
same-if f false s t x h k = k

kept-advanced : (n : ℕ) (v : List ℕ) (s : Vdp) → kept_of (advanced n v s) ≡ kept_of s
unfolding advanced moved finished
kept-advanced n v s = same-if kept_of (nat_lt n s.left) _ _ (kept_of s) refl refl

kept-stay : (c : ℕ) (s : Vdp) → kept_of (settled c s) ≡ kept_of s
unfolding settled
kept-stay c s = same-if kept_of (length (due c s) == 0) _ _ (kept_of s) refl (kept-advanced _ _ s)

cost-stays : (e c : ℕ) (s : Vdp) → word_cost c (settled e s) ≡ word_cost c s
unfolding word_cost
cost-stays e c s = ap (λ (k : Kept). if v_blank c (is_shown k.0) k.1.pal k.1.tall then 34 else 380) (kept-stay e s)

counter-stays : (e c : ℕ) (s : Vdp) → port_word Counter c (settled e s) ≡ port_word Counter c s
unfolding port_word is_wide
counter-stays e c s = ap (λ (k : Kept). hv c (slice_index k.0 12 % 2 == 1) k.1.pal k.1.tall) (kept-stay e s)

-- settling looks at none of the marks
vram-marked : (s : Vdp) (m : Marks) (n : ℕ) → vram_after (marked s m) n ≡ vram_after s n
unfolding vram_after write running step
vram-marked s m zero = refl
vram-marked s m (suc n) = ap (λ (v : List ℕ). done v (write s n v)) (vram-marked s m n)

count-marked : (c : ℕ) (s : Vdp) (m : Marks) → count c (marked s m) ≡ count c s
unfolding count step
count-marked c s m = refl

marks-if : (b : Bool) (s t : Vdp) (m : Marks) → (if b then marked s m else marked t m) ≡ marked (if b then s else t) m
marks-if true s t m = refl
marks-if false s t m = refl

advanced-marked : (n : ℕ) (v : List ℕ) (s : Vdp) (m : Marks) → advanced n v (marked s m) ≡ marked (advanced n v s) m
unfolding advanced moved finished running step
advanced-marked n v s m = marks-if (nat_lt n s.left) _ _ m

settled-marked : (c : ℕ) (s : Vdp) (m : Marks) → settled c (marked s m) ≡ marked (settled c s) m
settled-marked c s m = elim (cases_lt 0 (count c s)) [
  | inl some ↦ (by-some c (marked s m) (count c s) (count-marked c s m) some
      ∙ ap (λ (v : List ℕ). advanced (count c s) v (marked s m)) (vram-marked s m (count c s))
      ∙ advanced-marked (count c s) (vram_after s (count c s)) s m
      ∙ ap (λ (t : Vdp). marked t m) (sym (by-some c s (count c s) refl some)))
  | inr none ↦ (let nothing : count c s ≡ 0 = omega (arith, none) in
      by-none c (marked s m) (count-marked c s m ∙ nothing) ∙ ap (λ (t : Vdp). marked t m) (sym (by-none c s nothing)))
]

-- what changes marks alone, by what settling leaves, may come before it or after it
either-order : (f : Vdp → Vdp) (g : Kept → Marks) → ((s : Vdp) → f s ≡ marked s (g (kept_of s))) → (c : ℕ) (s : Vdp) → settled c (f s) ≡ f (settled c s)
either-order f g is c s =
    ap (settled c) (is s)
    ∙ settled-marked c s (g (kept_of s))
    ∙ ap (λ (k : Kept). marked (settled c s) (g k)) (sym (kept-stay c s))
    ∙ sym (is (settled c s))

abbrev taken_by : Bool → Bool → Kept → Marks
taken_by true second k = record k.1 { vertical = false }
taken_by false true k = record k.1 { horizontal = false }
taken_by false false k = k.1

taken-is : (b d : Bool) (s : Vdp)
    → (if b then record s { vertical = false } else (if d then record s { horizontal = false } else s)) ≡ marked s (taken_by b d (kept_of s))
taken-is true d s = refl
taken-is false true s = refl
taken-is false false s = refl

acknowledged-order : (n c : ℕ) (s : Vdp) → settled c (acknowledged n s) ≡ acknowledged n (settled c s)
unfolding acknowledged
acknowledged-order n c s = either-order (acknowledged n) (taken_by (n == 6) (n == 4)) (λ t. taken-is (n == 6) (n == 4) t) c s

-- the ports
module _ (e c : ℕ) (s : Vdp) (twice : settled c (settled e s) ≡ settled c s) where
  word-unseen : (port : VideoPort) → port_word port c (settled e s) ≡ port_word port c s
  unfolding port_word
  word-unseen Data = ap (λ (v : Vdp). read v % 0x1_0000) twice
  word-unseen Control = ap (status_at c) twice
  word-unseen Counter = counter-stays e c s
  word-unseen Sound = refl
  word-unseen Unused = refl

  transfer-unseen : (port : VideoPort) (word : ℕ) → port_transfer port c word (settled e s) ≡ port_transfer port c word s
  unfolding port_transfer
  transfer-unseen Data word = refl
  transfer-unseen Control word = (λ i. with_cost (cost-stays e c s i) (started_by word (twice i)))
  transfer-unseen Counter word = refl
  transfer-unseen Sound word = refl
  transfer-unseen Unused word = refl

  read-unseen : (port : VideoPort) → settled c (port_read port c (settled e s)) ≡ settled c (port_read port c s)
  unfolding port_read
  read-unseen Data = ap (λ (v : Vdp). settled c (accessed v)) twice
  read-unseen Control = ap (λ (v : Vdp). settled c (status_read v)) twice
  read-unseen Counter = twice
  read-unseen Sound = twice
  read-unseen Unused = twice

  written-unseen : (port : VideoPort) (word : ℕ) → settled c (port_written port c word (settled e s)) ≡ settled c (port_written port c word s)
  unfolding port_written
  written-unseen Data word = ap (λ (v : Vdp). settled c (written c word v)) twice
  written-unseen Control word = ap (λ (v : Vdp). settled c (controlled c word v)) twice
  written-unseen Counter word = twice
  written-unseen Sound word = twice
  written-unseen Unused word = twice

  begun-unseen : (note : SpriteNote) → line_begun c note (settled e s) ≡ line_begun c note s
  unfolding line_begun
  begun-unseen note = ap (λ (v : Vdp). line_started c (joined note v)) twice

pub unseen : (e c : ℕ) (s : Vdp) → e ≤ c → SeesNoSettling e c s
unseen e c s h =
    let twice : settled c (settled e s) ≡ settled c s = settled_twice e c s h in
    record {
      word = word-unseen e c s twice;
      transfer = transfer-unseen e c s twice;
      cost = cost-stays e c s;
      pins = settled_same e s;
      after_read = read-unseen e c s twice;
      after_write = written-unseen e c s twice;
      after_word = λ word. ap (transferred word) twice;
      after_acknowledge = λ level. acknowledged-order level c (settled e s) ∙ ap (acknowledged level) twice ∙ sym (acknowledged-order level c s);
      after_line = begun-unseen e c s twice;
    }
