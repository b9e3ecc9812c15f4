-- When a machine may be kept as it is, so that its bytes are read again. This project's profile.
use Rattle.std.specs.Prelude.{◌≡◌, ℕ, ◌≤◌, true}
use Rattle.m68k_chip.specs.Rules as main
use Rattle.z80_chip.specs.Rules as sub
use Rattle.vdp_chip.specs.Spelling as renderer_state
use Rattle.bus_shared.specs.Spelling as shared
use Rattle.md_chips.specs.Console.{Console, renderer_state_in}
use Rattle.md_chips.specs.Owners.{HasOneOwner}
use Rattle.md_chips.specs.Starts.{IsStart}
use Rattle.md_word.specs.Clock.{last_cycle}
use Rattle.save_state.specs.States.{are_fm_early, are_psg_early}

-- the parts may be kept at the cycle, no event is below it, and the rules that speak of several parts hold
pub record IsReady (at : ℕ) (m : Console) : Type 0 where
  pub begun : 1 ≤ at
  pub near : at ≤ last_cycle
  pub start : IsStart (record { at = at; console = m })
  pub main : main.HasRules at m.main
  pub sub : sub.HasRules m.sub.cart at m.sub.state
  pub one_cart : m.sub.cart ≡ m.cart
  pub one_owner : HasOneOwner m
  pub shared : shared.IsReady at m.shared
  pub renderer_state : renderer_state.IsReady at (renderer_state_in m)
  pub resets : m.sub.state.resets ≤ m.shared.resets
  pub fm_writes : are_fm_early m.main.next m.sub.state.next m.shared.fm ≡ true
  pub psg_writes : are_psg_early m.main.next m.sub.state.next m.shared.psg ≡ true
