-- The machine of power-on, at cycle 0: nothing of it is to be settled, and its bytes are no saved state.
use Rattle.std.proofs.Common.{◌≡◌, ℕ, ◌<◌, ◌^◌, Bool, List, [], ◌++◌, length, take, drop, refl, sym, ap, ap₂, subst, ◌∙◌, arith}
use Rattle.std.specs.Prelude.{filter, map, nat_lt}
use Rattle.std.specs.Int.{w64, from_be_bytes, to_be_bytes}
use Rattle.std.specs.List.{range_with_len}
use Rattle.std.proofs.lemmas.List.{append_cancel_left, take_at}
use Rattle.std.proofs.lemmas.Nat.{from_be_bytes-to_be_bytes_8}
use Rattle.sha2.specs.Sha256.{sha256}
use Rattle.md_fields.specs.Fields.{spelling}
use Rattle.md_pads.specs.Recording.{Recorded}
use Rattle.fm_port.specs.Timers.{both_settled, settled as timer_settled, settled_by}
use Rattle.fm_port.specs.declared.timers.Timers.{Timers}
use Rattle.vdp_dma.proofs.Settled.{settled_none}
use Rattle.vdp_dma.specs.Settling.{due, settled, vram_after, write, writes}
use Rattle.vdp_ports.specs.Vdp.{Vdp}
use Rattle.bus_shared.specs.Board.{Board}
use Rattle.bus_shared.specs.Spelling.{settled_board}
use Rattle.md_chips.specs.Console.{Console, power_on}
use Rattle.md_chips.specs.Starts.{Start}
use Rattle.save_state.specs.Layout.{magic_part, part_of}
use Rattle.save_state.specs.States.{IsNewest, kept_bytes, mark, settled_console, state_bytes, state_fields}
use Rattle.save_state.specs.Versions.{IsState, migrated}
use Rattle.save_state.specs.declared.version.Version.{Version}
use Rattle.save_state.specs.declared.version.Version.TheVariants.{Third}
use Rattle.save_state.proofs.VersionLaws.{magics_differ}

-- ---- nothing is to be settled

-- where no fill and no copy is in progress, nothing is due
nothing_due : (at : ℕ) (s : Vdp) → s.left ≡ 0 → length (due at s) ≡ 0
unfolding due writes
nothing_due at s none =
    ap (λ (n : ℕ). length (filter (λ w. nat_lt w.stamp at) (map (λ k. write s k (vram_after s k)) (range_with_len 0 n)))) none

first_vdp : (s : Vdp) → s.left ≡ 0 → settled 0 s ≡ s
first_vdp s none = sym (settled_none 0 s 0 (sym (nothing_due 0 s none)) refl)

first_timers : (t : Timers) → both_settled 0 t ≡ t
unfolding both_settled timer_settled settled_by
first_timers t = refl

first_board : (b : Board) → b.vdp.left ≡ 0 → settled_board 0 b ≡ b
first_board b none = ap₂ (λ (v : Vdp) (t : Timers). record b { vdp = v; fm = record b.fm { timers = t } }) (first_vdp b.vdp none) (first_timers b.fm.timers)

first_console : (m : Console) → m.shared.vdp.left ≡ 0 → settled_console 0 m ≡ m
first_console m none = ap (λ (b : Board). record m { shared = b }) (first_board m.shared none)

pub first_settled : (cart : List ℕ) (recording : Recorded) (pal : Bool) → settled_console 0 (power_on cart recording pal) ≡ power_on cart recording pal
first_settled cart recording pal = first_console (power_on cart recording pal) refl

-- ---- bytes keep machines of one cycle

cycles_by : (digest own : List ℕ) (a b : ℕ) (one other : List ℕ) → a < 2 ^ 64 → b < 2 ^ 64 → digest ≡ own
    → mark ++ (digest ++ (to_be_bytes w64 a ++ one)) ≡ mark ++ (own ++ (to_be_bytes w64 b ++ other)) → a ≡ b
cycles_by digest own a b one other small_a small_b is same =
    let joined : mark ++ (digest ++ (to_be_bytes w64 a ++ one)) ≡ mark ++ (digest ++ (to_be_bytes w64 b ++ other)) =
    same ∙ ap (λ (l : List ℕ). mark ++ (l ++ (to_be_bytes w64 b ++ other))) (sym is) in
    let rest : to_be_bytes w64 a ++ one ≡ to_be_bytes w64 b ++ other = append_cancel_left digest _ _ (append_cancel_left mark _ _ joined) in
    let digits : to_be_bytes w64 a ≡ to_be_bytes w64 b =
    sym (take_at (to_be_bytes w64 a) one 8 refl) ∙ ap (take 8) rest ∙ take_at (to_be_bytes w64 b) other 8 refl in
    sym (from_be_bytes-to_be_bytes_8 a small_a) ∙ ap (from_be_bytes w64) digits ∙ from_be_bytes-to_be_bytes_8 b small_b

-- what follows the digest and the cycle
rest_of : ℕ → Console → List ℕ
rest_of at m = spelling (drop 3 (state_fields [] at m))

pub one_cycle : (a b : ℕ) (m w : Console) → m.cart ≡ w.cart → a < 2 ^ 64 → b < 2 ^ 64 → kept_bytes a m ≡ kept_bytes b w → a ≡ b
unfolding spelling rest_of
one_cycle a b m w cart small_a small_b same =
    cycles_by (sha256 m.cart) (sha256 w.cart) a b (rest_of a m) (rest_of b w) small_a small_b (ap sha256 cart) same

-- bytes that are written begin with the magic
marked : (at : ℕ) (m : Console) → part_of magic_part (kept_bytes at m) ≡ mark
unfolding spelling rest_of
marked at m = take_at mark (sha256 m.cart ++ (to_be_bytes w64 at ++ rest_of at m)) 8 refl

newest_of : (cart bytes : List ℕ) (start : Start) → IsNewest cart (migrated Third bytes) start → IsNewest cart bytes start
unfolding migrated
newest_of cart bytes start newest = newest

-- ---- the bytes of power-on

pub first_is_none : (cart : List ℕ) (recording : Recorded) (pal : Bool) (start : Start) → IsState cart (state_bytes 0 (power_on cart recording pal)) start → ⊥
first_is_none cart recording pal start is =
    let first : Console = settled_console 0 (power_on cart recording pal) in
    let version : is.version ≡ Third = magics_differ is.version Third (sym is.has.magic_is ∙ marked 0 first) in
    let newest : IsNewest cart (state_bytes 0 (power_on cart recording pal)) start =
    newest_of cart _ start (subst (λ (v : Version). IsNewest cart (migrated v (state_bytes 0 (power_on cart recording pal))) start) version is.newest) in
    let cycle : start.at ≡ 0 =
    one_cycle start.at 0 start.console first newest.saved.image (omega (arith, newest.saved.near)) (omega arith) (sym newest.all) in
    omega (arith, cycle, newest.saved.begun)
