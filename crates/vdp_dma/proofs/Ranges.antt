-- What is settled fits the bytes of a saved state, as what it was settled from did.
use Rattle.std.proofs.Common.{◌≡◌, ◌∙◌, ℕ, zero, suc, ◌+◌, ◌%◌, ◌^◌, ◌<◌, ◌≤◌, Bool, true, false, nat_lt, if◌then◌else◌, List, length, inl, inr, subst, arith}
use Rattle.std.proofs.lemmas.Bool.{cases_lt}
use Rattle.std.proofs.lemmas.List.{length-set}
use Rattle.md_word.specs.Clock.{cycle_limit}
use Rattle.vdp_ports.specs.Vdp.{Vdp}
use Rattle.vdp_ports.specs.Rules.{HasRules}
use Rattle.vdp_ports.specs.Spelling.{Spells, vdp_bytes}
use Rattle.vdp_ports.specs.Ranges.{IsInRange}
use Rattle.vdp_ports.proofs.RuleLaws.{spelled_back}
use Rattle.vdp_dma.specs.Settling.{advanced, copies, finished, moved, running, settled, vram_after, write}
use Rattle.vdp_dma.proofs.Counts.{count}
use Rattle.vdp_dma.proofs.Kept.{settled_is, settled_kept}
use Rattle.vdp_dma.proofs.Regions.{settled_region}
use Rattle.vdp_dma.proofs.Settled.{by-none, by-some}

after-long : (s : Vdp) (n : ℕ) → length (vram_after s n) ≡ length s.vram
unfolding vram_after
after-long s zero = omega arith
after-long s (suc n) = length-set (vram_after s n) (write s n (vram_after s n)).address (write s n (vram_after s n)).byte ∙ after-long s n

source-small : (b : Bool) (source n : ℕ) → source < 2 ^ 16 → (if b then (source + n) % 0x1_0000 else source) < 2 ^ 16
source-small true source n small = omega arith
source-small false source n small = small

-- the next byte of what has the rules is not far
kinds : (kind : ℕ) → kind ≤ 2 → (P : ℕ → Type 0) → P 0 → P 1 → P 2 → P kind
kinds zero few P a b c = a
kinds (suc zero) few P a b c = b
kinds (suc (suc zero)) few P a b c = c
kinds (suc (suc (suc n))) few P a b c = absurd (omega (arith, few))

next-small : (at : ℕ) (s : Vdp) → at ≤ cycle_limit → HasRules at s → s.next_stamp < 2 ^ 64
next-small at s far h =
    kinds s.dma_kind h.going.known (λ k. s.dma_kind ≡ k → s.next_stamp < 2 ^ 64)
    (λ k. omega (arith, (h.going.none k).4))
    (λ k. omega (arith, far, (h.going.fill k).3))
    (λ k. omega (arith, far, (h.going.copy k).3))
    (λ i. s.dma_kind)

moved-range : (at n : ℕ) (v : List ℕ) (s : Vdp) → length v ≡ length s.vram → at ≤ cycle_limit → IsInRange s → HasRules at (moved n v s) → IsInRange (moved n v s)
unfolding moved running
moved-range at n v s long far r h = record {
  sizes = record { of_registers = r.sizes.of_registers; of_vram = long ∙ r.sizes.of_vram; of_cram = r.sizes.of_cram; of_vsram = r.sizes.of_vsram };
  cram = r.cram;
  vsram = r.vsram;
  code = r.code;
  a = r.a;
  dma_kind = r.dma_kind;
  byte = r.byte;
  source = source-small (copies s) s.source n r.source;
  address = omega arith;
  left = omega (arith, r.left);
  next_stamp = next-small at (moved n v s) far h;
  line_counter = r.line_counter;
  int_from = r.int_from;
  int_to = r.int_to;
}

finished-range : (v : List ℕ) (s : Vdp) → length v ≡ length s.vram → IsInRange s → IsInRange (finished v s)
unfolding finished
finished-range v s long r = record {
  sizes = record { of_registers = r.sizes.of_registers; of_vram = long ∙ r.sizes.of_vram; of_cram = r.sizes.of_cram; of_vsram = r.sizes.of_vsram };
  cram = r.cram;
  vsram = r.vsram;
  code = r.code;
  a = r.a;
  dma_kind = omega arith;
  byte = omega arith;
  source = omega arith;
  address = omega arith;
  left = omega arith;
  next_stamp = omega arith;
  line_counter = r.line_counter;
  int_from = r.int_from;
  int_to = r.int_to;
}

advanced-range : (at n : ℕ) (v : List ℕ) (s : Vdp) → length v ≡ length s.vram → at ≤ cycle_limit → IsInRange s → HasRules at (advanced n v s) → IsInRange (advanced n v s)
unfolding advanced
advanced-range at n v s long far r = by (nat_lt n s.left) where
  by : (b : Bool) → HasRules at (if b then moved n v s else finished v s) → IsInRange (if b then moved n v s else finished v s)
  by true h = moved-range at n v s long far r h
  by false h = finished-range v s long r

pub settled_range : (earlier at : ℕ) (s : Vdp) → earlier ≤ at → at ≤ cycle_limit → IsInRange s → HasRules earlier s → IsInRange (settled at s)
settled_range earlier at s following far r h = elim (cases_lt 0 (count at s)) [
  | inl some ↦ (let e : settled at s ≡ advanced (count at s) (vram_after s (count at s)) s = by-some at s (count at s) (omega arith) some in
      let rules : HasRules at (advanced (count at s) (vram_after s (count at s)) s) = rw (← e) (settled_kept earlier at s following h) in
      rw e (advanced-range at (count at s) (vram_after s (count at s)) s (after-long s (count at s)) far r rules))
  | inr none ↦ (let e : settled at s ≡ s = by-none at s (omega (arith, none)) in rw e r)
]

-- the bytes of a VDP whose rules hold at a cycle, settled to a later one, are read again
pub settled_spelled : (earlier at : ℕ) (s : Vdp) → earlier ≤ at → at ≤ cycle_limit → IsInRange s → HasRules earlier s → Spells at s.pal (vdp_bytes (settled at s)) (settled at s)
settled_spelled earlier at s following far r h =
    subst (λ (pal : Bool). Spells at pal (vdp_bytes (settled at s)) (settled at s)) (settled_region at s)
    (spelled_back at (settled at s) (settled_range earlier at s following far r h) (settled_is earlier at s following h))
