-- Accesses keep the rules.
use Rattle.std.proofs.Common.{◌≡◌, ◌∙◌, refl, ap, ℕ, ◌/◌, ◌%◌, ◌<◌, ◌≤◌, ◌==◌, Bool, true, false, ◌&&◌, nat_lt, if◌then◌else◌, bit_and, inl, arith}
use Rattle.std.proofs.lemmas.Nat.{and_assoc}
use Rattle.std.specs.Int.Bits.{and_self}
use Rattle.std.proofs.lemmas.List.Elements.{All-set, All-replicate}
use Rattle.vdp_ports.specs.Vdp.{Vdp, register, at_power_on}
use Rattle.vdp_ports.specs.Dma.{length_of, dropped, filling, copying}
use Rattle.vdp_ports.specs.Data.{accessed, put, transferred, written}
use Rattle.vdp_ports.specs.Control.{stored, first, second, started, armed, starts, transfers, controlled, status_read, acknowledged}
use Rattle.vdp_ports.specs.Rules.{HasRules}

length-some : (s : Vdp) → 0 < length_of s
unfolding length_of
length-some s = omega arith

pub length-most : (s : Vdp) → length_of s ≤ 0x1_0000
unfolding length_of
length-most s = omega arith

dropped-kept : (at : ℕ) (s : Vdp) → HasRules at s → HasRules at (dropped s)
unfolding dropped
dropped-kept at s h = record {
  code = h.code;
  interval = h.interval;
  region = h.region;
  cram = h.cram;
  vsram = h.vsram;
  going = record { known = omega arith; none = λ e. (refl, refl, refl, refl, refl); fill = λ e. absurd (omega (arith, e)); copy = λ e. absurd (omega (arith, e)) };
}

filling-kept : (cycle at word : ℕ) (s : Vdp) → cycle < at → HasRules at s → HasRules at (filling cycle word s)
unfolding filling
filling-kept cycle at word s l h = record {
  code = h.code;
  interval = h.interval;
  region = h.region;
  cram = h.cram;
  vsram = h.vsram;
  going = record {
    known = omega arith;
    none = λ e. absurd (omega (arith, e));
    fill = λ e. (refl, length-some s, length-most s, omega (arith, l));
    copy = λ e. absurd (omega (arith, e));
  };
}

copying-kept : (cycle at : ℕ) (s : Vdp) → cycle < at → HasRules at s → HasRules at (copying cycle s)
unfolding copying
copying-kept cycle at s l h = record {
  code = h.code;
  interval = h.interval;
  region = h.region;
  cram = h.cram;
  vsram = h.vsram;
  going = record {
    known = omega arith;
    none = λ e. absurd (omega (arith, e));
    fill = λ e. absurd (omega (arith, e));
    copy = λ e. (refl, length-some s, length-most s, omega (arith, l));
  };
}

first-kept : (at word : ℕ) (s : Vdp) → HasRules at s → HasRules at (first word s)
unfolding first
first-kept at word s h = record { code = omega (arith, h.code); interval = h.interval; region = h.region; cram = h.cram; vsram = h.vsram; going = h.going }

second-kept : (at word : ℕ) (s : Vdp) → HasRules at s → HasRules at (second word s)
unfolding second
second-kept at word s h = record { code = omega arith; interval = h.interval; region = h.region; cram = h.cram; vsram = h.vsram; going = h.going }

-- the fields of a fill or copy, the code and the two tables are all that the rules look at
pub accessed_kept : (at : ℕ) (s : Vdp) → HasRules at s → HasRules at (accessed s)
unfolding accessed
accessed_kept at s h = record { code = h.code; interval = h.interval; region = h.region; cram = h.cram; vsram = h.vsram; going = h.going }

-- a choice keeps the rules where both of its sides do
pub kept_if : (b : Bool) (at : ℕ) (s t : Vdp) → (b ≡ true → HasRules at s) → (b ≡ false → HasRules at t) → HasRules at (if b then s else t)
kept_if true at s t h k = h refl
kept_if false at s t h k = k refl

stored-kept : (at word : ℕ) (s : Vdp) → HasRules at s → HasRules at (stored word s)
unfolding stored
stored-kept at word s h = kept_if (nat_lt (word / 256 % 32) 24) at _ _
    (λ e. record { code = h.code; interval = h.interval; region = h.region; cram = h.cram; vsram = h.vsram; going = h.going }) (λ e. h)

and-twice : (m w : ℕ) → bit_and (bit_and w m) m ≡ bit_and w m
and-twice m w = and_assoc m w m ∙ ap (bit_and w) (and_self m)

put-kept : (at word : ℕ) (s : Vdp) → HasRules at s → HasRules at (put word s)
unfolding put
put-kept at word s h =
    kept_if (s.code % 16 == 1) at _ _
    (λ e. record { code = h.code; interval = h.interval; region = h.region; cram = h.cram; vsram = h.vsram; going = h.going })
    (λ e. kept_if (s.code % 16 == 3) at _ _
    (λ f. record {
      code = h.code;
      interval = h.interval;
      region = h.region;
      cram = All-set (λ w. bit_and w 0x0eee ≡ w) s.cram (s.a / 2 % 64) (bit_and word 0x0eee) (and-twice 0x0eee word) h.cram;
      vsram = h.vsram;
      going = h.going;
    })
    (λ f. kept_if ((s.code % 16 == 5) && nat_lt (s.a / 2 % 64) 40) at _ _
    (λ g. record {
      code = h.code;
      interval = h.interval;
      region = h.region;
      cram = h.cram;
      vsram = All-set (λ w. bit_and w 0x07ff ≡ w) s.vsram (s.a / 2 % 64) (bit_and word 0x07ff) (and-twice 0x07ff word) h.vsram;
      going = h.going;
    })
    (λ g. h)))

pub transferred_kept : (at word : ℕ) (s : Vdp) → HasRules at s → HasRules at (transferred word s)
unfolding transferred
transferred_kept at word s h = accessed_kept at (put word s) (put-kept at word s h)

pub status_read_kept : (at : ℕ) (s : Vdp) → HasRules at s → HasRules at (status_read s)
unfolding status_read
status_read_kept at s h = record { code = h.code; interval = h.interval; region = h.region; cram = h.cram; vsram = h.vsram; going = h.going }

pub written_kept : (cycle at word : ℕ) (s : Vdp) → cycle < at → HasRules at s → HasRules at (written cycle word s)
unfolding written
written_kept cycle at word s l h =
    kept_if s.armed at _ _ (λ e. filling-kept cycle at word (transferred word s) l (transferred_kept at word s h)) (λ e. transferred_kept at word s h)

armed-kept : (at : ℕ) (s : Vdp) → HasRules at s → HasRules at (armed s)
unfolding armed
armed-kept at s h = (let d = dropped-kept at s h in
    record { code = d.code; interval = d.interval; region = d.region; cram = d.cram; vsram = d.vsram; going = d.going })

started-kept : (cycle at : ℕ) (s : Vdp) → cycle < at → HasRules at s → HasRules at (started cycle s)
unfolding started
started-kept cycle at s l h =
    kept_if (transfers s) at _ _ (λ e. dropped-kept at s h) (λ e. kept_if (register s 23 / 64 == 2) at _ _ (λ f. armed-kept at s h) (λ f. copying-kept cycle at s l h))

pub controlled_kept : (cycle at word : ℕ) (s : Vdp) → cycle < at → HasRules at s → HasRules at (controlled cycle word s)
unfolding controlled
controlled_kept cycle at word s l h =
    kept_if s.pending at _ _
    (λ p. kept_if (starts (second word s)) at _ _ (λ e. started-kept cycle at (second word s) l (second-kept at word s h)) (λ e. second-kept at word s h))
    (λ p. kept_if (word / 0x4000 == 2) at _ _ (λ e. stored-kept at word s h) (λ e. first-kept at word s h))

pub acknowledged_kept : (at level : ℕ) (s : Vdp) → HasRules at s → HasRules at (acknowledged level s)
unfolding acknowledged
acknowledged_kept at level s h =
    kept_if (level == 6) at _ _
    (λ e. record { code = h.code; interval = h.interval; region = h.region; cram = h.cram; vsram = h.vsram; going = h.going })
    (λ e. kept_if (level == 4) at _ _ (λ f. record { code = h.code; interval = h.interval; region = h.region; cram = h.cram; vsram = h.vsram; going = h.going }) (λ f. h))

pub power_on_rules : (at : ℕ) (pal : Bool) → HasRules at (at_power_on pal)
power_on_rules at pal = record {
  code = omega arith;
  interval = inl (refl, refl);
  region = λ e. absurd (cc e);
  cram = All-replicate (λ w. bit_and w 0x0eee ≡ w) 64 0 refl;
  vsram = All-replicate (λ w. bit_and w 0x07ff ≡ w) 40 0 refl;
  going = record { known = omega arith; none = λ e. (refl, refl, refl, refl, refl); fill = λ e. absurd (omega (arith, e)); copy = λ e. absurd (omega (arith, e)) };
}
