-- A line's event keeps the rules and the region.
use Rattle.std.proofs.Common.{◌≡◌, ◌∙◌, refl, ℕ, ◌/◌, ◌%◌, ◌<◌, ◌==◌, Bool, true, false, ◌&&◌, nat_lt, if◌then◌else◌, inr}
use Rattle.md_word.specs.Clock as clock
use Rattle.md_word.specs.Region.{height}
use Rattle.vdp_ports.specs.Vdp.{Vdp, register}
use Rattle.vdp_ports.specs.Rules.{HasRules}
use Rattle.vdp_ports.proofs.Kept.{kept_if}
use Rattle.vdp_ports.proofs.Regions.{region_if}
use Rattle.vdp_time.specs.Lines.{counted, heightened, raised, line_started, line_of}

-- a choice keeps the rules where both of its sides do
either : (b : Bool) (at : ℕ) (s t : Vdp) → HasRules at s → HasRules at t → HasRules at (if b then s else t)
either b at s t h k = kept_if b at s t (λ e. h) (λ e. k)

-- the first of two that are true is true
first_of : (a b : Bool) → (a && b) ≡ true → a ≡ true
first_of true b e = refl
first_of false b e = absurd (cc e)

heightened-kept : (at line : ℕ) (s : Vdp) → HasRules at s → HasRules at (heightened line s)
unfolding heightened
heightened-kept at line s h =
    either (line == 0) at _ _
    (record { code = h.code; cram = h.cram; vsram = h.vsram; going = h.going; interval = h.interval; region = first_of s.pal (register s 1 / 8 % 2 == 1) }) h

counted-kept : (at line : ℕ) (s : Vdp) → HasRules at s → HasRules at (counted line s)
unfolding counted
counted-kept at line s h =
    either (nat_lt line (height s.tall)) at _ _
    (either (s.line_counter == 0) at _ _
    (record { code = h.code; cram = h.cram; vsram = h.vsram; going = h.going; interval = h.interval; region = h.region })
    (record { code = h.code; cram = h.cram; vsram = h.vsram; going = h.going; interval = h.interval; region = h.region }))
    (record { code = h.code; cram = h.cram; vsram = h.vsram; going = h.going; interval = h.interval; region = h.region })

raised-kept : (at cycle line : ℕ) (s : Vdp) → cycle < at → cycle % clock.line ≡ 0 → HasRules at s → HasRules at (raised cycle line s)
unfolding raised
raised-kept at cycle line s l e h =
    either (line == height s.tall) at _ _ (record { code = h.code; cram = h.cram; vsram = h.vsram; going = h.going; interval = inr (e, l, refl); region = h.region }) h

pub started_kept : (at cycle : ℕ) (s : Vdp) → cycle < at → cycle % clock.line ≡ 0 → HasRules at s → HasRules at (line_started cycle s)
unfolding line_started
started_kept at cycle s l e h =
    raised-kept at cycle (line_of cycle s.pal) (counted (line_of cycle s.pal) (heightened (line_of cycle s.pal) s)) l e
    (counted-kept at (line_of cycle s.pal) (heightened (line_of cycle s.pal) s) (heightened-kept at (line_of cycle s.pal) s h))

-- ---- the region

heightened-region : (line : ℕ) (s : Vdp) → (heightened line s).pal ≡ s.pal
unfolding heightened
heightened-region line s = region_if (line == 0) _ _ s.pal refl refl

counted-region : (line : ℕ) (s : Vdp) → (counted line s).pal ≡ s.pal
unfolding counted
counted-region line s = region_if (nat_lt line (height s.tall)) _ _ s.pal (region_if (s.line_counter == 0) _ _ s.pal refl refl) refl

raised-region : (cycle line : ℕ) (s : Vdp) → (raised cycle line s).pal ≡ s.pal
unfolding raised
raised-region cycle line s = region_if (line == height s.tall) _ _ s.pal refl refl

pub started_region : (cycle : ℕ) (s : Vdp) → (line_started cycle s).pal ≡ s.pal
unfolding line_started
started_region cycle s =
    let n = line_of cycle s.pal in
    raised-region cycle n (counted n (heightened n s)) ∙ counted-region n (heightened n s) ∙ heightened-region n s
