-- VRAM among the bytes that keep a VDP: its offset, and another memory in its place.
use Rattle.std.proofs.Common.{◌≡◌, ◌∙◌, ap, sym, ℕ, ◌+◌, List, ◌++◌, length, take, drop, append_assoc, take_all, arith}
use Rattle.std.proofs.lemmas.List.{length-append, take_at, drop_at, take-append-le}
use borrow.Rule.Slice.PartMut.{put_mid}
use Rattle.md_fields.specs.Fields.{spelling}
use Rattle.vdp_ports.specs.Dma.{with_rest}
use Rattle.vdp_ports.specs.Spelling.{vdp_bytes}
use Rattle.vdp_ports.specs.Vdp.{Vdp, vram_size}
use Rattle.vdp_ports.specs.declared.dma.Rest.{Rest}

-- the part of a list between two others, and another in its place
mid_of : (front old back : List ℕ) (from k : ℕ) → from ≡ length front → k ≡ length old → take k (drop from (front ++ (old ++ back))) ≡ old
mid_of front old back from k here size = ap (take k) (drop_at front (old ++ back) from (sym here)) ∙ take_at old back k (sym size)

put_of : (front old new back : List ℕ) (from k : ℕ) → from ≡ length front → k ≡ length old → put_mid from k (front ++ (old ++ back)) new ≡ front ++ (new ++ back)
put_of front old new back from k here size =
    let rest : drop k (drop from (front ++ (old ++ back))) ≡ back = ap (drop k) (drop_at front (old ++ back) from (sym here)) ∙ drop_at old back k (sym size) in
    λ i. take_at front (old ++ back) from (sym here) i ++ (new ++ rest i)

length_mid : (before front old new back : List ℕ) → length old ≡ length new → length (before ++ (front ++ (old ++ back))) ≡ length (before ++ (front ++ (new ++ back)))
length_mid before front old new back e =
    let one = length-append before (front ++ (old ++ back)) in
    let two = length-append before (front ++ (new ++ back)) in
    let three = length-append front (old ++ back) in
    let four = length-append front (new ++ back) in
    omega (arith, one, two, three, four, length-append old back, length-append new back, e)

-- where the registers and VRAM are as many bytes as they say
pub vram_there : (before : List ℕ) (s : Vdp) (vram : List ℕ) (rest : Rest) (from k : ℕ) → length s.registers ≡ 24 → length vram ≡ vram_size
    → from ≡ length before + 24 → k ≡ vram_size → take k (drop from (before ++ vdp_bytes (with_rest s vram rest))) ≡ vram
unfolding spelling
vram_there before s vram rest from k registers whole here size =
    ap (λ (l : List ℕ). take k (drop from l)) (sym (append_assoc before s.registers _))
    ∙ mid_of (before ++ s.registers) vram _ from k (omega (arith, here, registers, length-append before s.registers)) (omega (arith, size, whole))

pub vram_put : (before : List ℕ) (s : Vdp) (old new : List ℕ) (rest : Rest) (from k : ℕ) → length s.registers ≡ 24 → length old ≡ vram_size
    → from ≡ length before + 24 → k ≡ vram_size → put_mid from k (before ++ vdp_bytes (with_rest s old rest)) new ≡ before ++ vdp_bytes (with_rest s new rest)
unfolding spelling
vram_put before s old new rest from k registers whole here size =
    ap (λ (l : List ℕ). put_mid from k l new) (sym (append_assoc before s.registers _))
    ∙ put_of (before ++ s.registers) old new _ from k (omega (arith, here, registers, length-append before s.registers)) (omega (arith, size, whole))
    ∙ append_assoc before s.registers _

pub vram_length : (before : List ℕ) (s : Vdp) (old new : List ℕ) (rest : Rest) → length old ≡ length new
    → length (before ++ vdp_bytes (with_rest s old rest)) ≡ length (before ++ vdp_bytes (with_rest s new rest))
unfolding spelling
vram_length before s old new rest e = length_mid before s.registers old new _ e

-- what a slice of a whole list gives back
pub given_back : (all old : List ℕ) (n : ℕ) → n ≡ length all → take n (all ++ drop (length all) old) ≡ all
given_back all old n e = take-append-le n all (drop (length all) old) (omega (arith, e)) ∙ take_all n all (omega (arith, e))
