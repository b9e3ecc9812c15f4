-- The writes that the sound chips' ports hold during a run.
use Rattle.std.proofs.Common.{◌≡◌, ℕ, zero, suc, ◌+◌, ◌%◌, ◌<◌, ◌≤◌, ◌==◌, ◌&&◌, Option, Some, None, cond, Bool, true, false, not, List, [], ◌∷◌, ◌++◌, length, refl, sym, ap, ◌∙◌, subst, arith, lit<}
use Rattle.std.specs.Prelude.{All, nat_lt}
use Rattle.std.proofs.lemmas.List.Elements.{All-filter}
use Rattle.sound_writes.proofs.Helds.{All-held_with}
use Rattle.std.proofs.lemmas.Bool.{lt-ltb}
use Rattle.md_word.specs.Clock as clock
use Rattle.md_word.specs.Keys.{key_lt}
use Rattle.md_word.specs.declared.key.Key.{Key}
use Rattle.sound_writes.specs.Held.{held_with, left_from, limit}
use Rattle.m68k_chip.specs.Events.{request_of}
use Rattle.m68k_chip.specs.States.{next_of}
use Rattle.z80_chip.specs.Events.{asked_of}
use Rattle.z80_chip.specs.States.{next_of as sub_next_of}
use Rattle.fm_port.specs.PortSpelling.{is_write, saved_write_of}
use Rattle.fm_port.specs.declared.write.FmWrite.{FmWrite}
use Rattle.psg_sound.specs.declared.write.PsgWrite.{PsgWrite}
use Rattle.vdp_planes.specs.declared.view.SpriteNote.{SpriteNote}
use Rattle.bus_shared.proofs.Touches.{left_by_line}
use Rattle.z80_parcel.specs.Parcels.{Store}
use Rattle.z80_parcel.specs.Requests.{RequestValue80, ReadByte, WriteByte, HandOver, TakeBack}
use Rattle.bus_shared.specs.Accesses.{line_board, psg_board, sub_access, taken_back, yielded}
use Rattle.bus_shared.specs.Z80Space.{is_psg80}
use Rattle.bus_shared.specs.Board.{Board}
use Rattle.bus_shared.specs.Fm.{fm_board, is_fm}
use Rattle.md_chips.specs.Console.{AllBelow, Console, fm_moved, key_in, line_moved, main_moved, moved, mover, psg_moved, ran, sub_moved}
use Rattle.md_chips.specs.Movers.{mover-lt}
use Rattle.md_chips.proofs.Moves.{five-each}
use Rattle.journal_sound.specs.Heard.{fm_of, psg_of, reported}
use Rattle.journal_sound.specs.declared.hearing.Hearing.{Hearing}
use Rattle.journal_sound.specs.declared.sound_access.SoundAccess.{SoundAccess}
use Rattle.journal_sound.specs.declared.sound_access.SoundAccess.TheVariants.{Psg, Fm, Reset, Nothing}
use Rattle.machine_laws.specs.Paces.{ArePaced, IsPaced}
use Rattle.machine_laws.proofs.Effects.{Takes, held_all, hearing, main-reports, sub_access-reports}
use Rattle.machine_laws.proofs.Held.{AreHeld, few-held, held-later, held-left, held-main, held-sub, main_key, sub_key}

-- what an access reports to a port: nothing, or a write of its key
pub data IsReported {A : Type 0} (key : A → Key) (right : A → Bool) (at : Key) (ws : List A) : Type 0 where
  none : ws ≡ [] → IsReported key right at ws
  one : (w : A) → ws ≡ w ∷ [] → key w ≡ at → right w ≡ true → IsReported key right at ws

-- a reset is the 68000's
abbrev pub IsFor : Key → SoundAccess → Type 0
IsFor k (Psg value) = Unit {0}
IsFor k (Fm address value) = Unit {0}
IsFor k Reset = k.chip ≡ 0
IsFor k Nothing = Unit {0}

-- a port, of the FM chip or of the PSG
pub record PortOf (A : Type 0) : Type 0 where
  pub key : A → Key
  pub fm : Bool
  pub held : Board → List A
  pub of : Key → SoundAccess → Hearing → List A
  pub right : A → Bool
  pub reported : (k : Key) (t : SoundAccess) (h : Hearing) → IsFor k t → IsReported key right k (of k t h)
  pub silent : (k : Key) (h : Hearing) → of k Nothing h ≡ []
  pub takes : (k : Key) (t : SoundAccess) (old new : Board) → Takes k t old new → held new ≡ held_all (held old) (of k t (hearing old))
  pub line : (board : Board) (cycle : ℕ) (note : SpriteNote) → held (line_board board cycle note) ≡ held board
  pub fm_batch : (board : Board) (cycle : ℕ) → held (fm_board board cycle) ≡ cond fm (left_from (λ w. (key w).cycle) cycle (held board)) (held board)
  pub psg_batch : (board : Board) (cycle : ℕ) → held (psg_board board cycle) ≡ cond fm (held board) (left_from (λ w. (key w).cycle) cycle (held board))

pub psg_reported : (k : Key) (t : SoundAccess) → IsReported (λ (w : PsgWrite). w.key) (λ w. true) k (psg_of k t)
psg_reported k (Psg value) = one (record { key = k; value = value }) refl refl refl
psg_reported k (Fm address value) = none refl
psg_reported k Reset = none refl
psg_reported k Nothing = none refl

fm_reported-by : (a b c : Bool) (k : Key) (first second : FmWrite) → first.key ≡ k → second.key ≡ k → is_write (saved_write_of first) ≡ true → is_write (saved_write_of second) ≡ true
    → IsReported (λ (w : FmWrite). w.key) (λ w. is_write (saved_write_of w)) k (cond a [] (cond b [] (cond c (first ∷ []) (second ∷ []))))
fm_reported-by true b c k first second is is' right right' = none refl
fm_reported-by false true c k first second is is' right right' = none refl
fm_reported-by false false true k first second is is' right right' = one first refl is right
fm_reported-by false false false k first second is is' right right' = one second refl is' right'

reset-right : (n : ℕ) → n ≡ 0 → ((n == 0) && true) ≡ true
reset-right n is = grind (arith, is)

pub fm_reported : (k : Key) (t : SoundAccess) (h : Hearing) → IsFor k t → IsReported (λ (w : FmWrite). w.key) (λ w. is_write (saved_write_of w)) k (fm_of k t h)
fm_reported k (Psg value) h is = none refl
fm_reported k (Fm address value) h is = fm_reported-by (address == 0) (address == 2) (address == 1) k _ _ refl refl refl refl
fm_reported k Reset h is = one _ refl refl (reset-right k.chip is)
fm_reported k Nothing h is = none refl

pub psg-line : (board : Board) (cycle : ℕ) (note : SpriteNote) → (line_board board cycle note).psg ≡ board.psg
psg-line board cycle note = let leaves = left_by_line board cycle note in leaves.psg

pub fm-line : (board : Board) (cycle : ℕ) (note : SpriteNote) → (line_board board cycle note).fm.writes ≡ board.fm.writes
fm-line board cycle note = let leaves = left_by_line board cycle note in ap (λ p. p.writes) leaves.fm

unfoldable pub psg_port : PortOf PsgWrite
unfolding fm_board psg_board
psg_port = record {
  key = λ w. w.key;
  fm = false;
  held = λ board. board.psg;
  of = λ k t h. psg_of k t;
  right = λ w. true;
  reported = λ k t h is. psg_reported k t;
  silent = λ k h. refl;
  takes = λ k t old new is. is.psg;
  line = psg-line;
  fm_batch = λ board cycle. refl;
  psg_batch = λ board cycle. refl;
}

unfoldable pub fm_port : PortOf FmWrite
unfolding fm_board psg_board
fm_port = record {
  key = λ w. w.key;
  fm = true;
  held = λ board. board.fm.writes;
  of = fm_of;
  right = λ w. is_write (saved_write_of w);
  reported = fm_reported;
  silent = λ k h. refl;
  takes = λ k t old new is. is.fm;
  line = fm-line;
  fm_batch = λ board cycle. refl;
  psg_batch = λ board cycle. refl;
}

-- the cycle of its next batch
abbrev pub next_batch : Bool → Console → ℕ
next_batch fm z = cond fm z.fm_cycle z.psg_cycle

-- what holds of a port in a machine whose events so far are below `end`
pub record PortHolds {A : Type 0} (p : PortOf A) (end : ℕ) (z : Console) : Type 0 where
  pub from : ℕ
  pub next : next_batch p.fm z ≡ from + clock.batch
  pub held : AreHeld p.key from end z.main.next z.sub.state.next (p.held z.shared)
  pub right : All (λ w. p.right w ≡ true) (p.held z.shared)

-- there is room for one more
pub room-for : {A : Type 0} (ws : List A) (w : A) → length ws ≤ 936 → held_with ws w ≡ ws ++ w ∷ []
room-for ws w few = let yes : nat_lt (length ws) limit ≡ true = lt-ltb (length ws) limit (omega (arith, few)) in ap (λ b. cond b (ws ++ w ∷ []) ws) yes

not_before : (c d n k : ℕ) → key_lt (record { cycle = c; chip = n }) (record { cycle = d; chip = k }) ≡ false → d ≤ c
not_before c d n k is = grind (arith, is)

sub_before_main : (m s : ℕ) → key_lt (record { cycle = m; chip = 0 }) (record { cycle = s; chip = 1 }) ≡ false → s < m
sub_before_main m s is = grind (arith, is)

-- who reports a reset
pub main-for : (cycle : ℕ) (t : SoundAccess) → IsFor (main_key cycle) t
main-for cycle (Psg value) = tt
main-for cycle (Fm address value) = tt
main-for cycle Reset = refl
main-for cycle Nothing = tt

space-for : (b c : Bool) (k : Key) (at value : ℕ) → IsFor k (cond b (Psg value) (cond c (Fm (at % 4) value) Nothing))
space-for true c k at value = tt
space-for false true k at value = tt
space-for false false k at value = tt

yielded-for : (b : Bool) (h : Hearing) (board : Board) (key k : Key) (store : Store) → IsFor k (reported h (yielded b board key store).entry)
unfolding reported
yielded-for true h board key k store = tt
yielded-for false h board key k store = tt

taken-for : (b : Bool) (store : Option Store) (h : Hearing) (board : Board) (key k : Key) → IsFor k (reported h (taken_back b store board key).entry)
unfolding reported
taken-for true store h board key k = tt
taken-for false None h board key k = tt
taken-for false (Some store) h board key k = tt

pub sub-for : (board : Board) (key : Key) (request : RequestValue80) → IsFor key (reported (hearing board) (sub_access board key request).entry)
unfolding sub_access reported
sub-for board key (ReadByte at) = tt
sub-for board key (WriteByte at value) = space-for (is_psg80 at) (is_fm at) key at value
sub-for board key (HandOver store) = yielded-for board.request (hearing board) board key key store
sub-for board key TakeBack = taken-for board.request board.store (hearing board) board key key

module _ {A : Type 0} (p : PortOf A) (end : ℕ) where
  -- a write of the 68000 at its next event, and of the Z80, where there is one
  main-reported : (from main sub main' : ℕ) (ws new reported : List A) → IsReported p.key p.right (main_key main) reported → new ≡ held_all ws reported
      → main < end → main ≤ from + clock.batch → main ≤ sub → main + clock.main_gap ≤ main' → AreHeld p.key from end main sub ws → AreHeld p.key from end main' sub new
  main-reported from main sub main' ws new reported (none is) new_is high batch before next held =
      subst (AreHeld p.key from end main' sub) (sym (new_is ∙ ap (held_all ws) is)) (held-later p.key from end main sub main' sub ws (omega (arith, next)) (omega arith) held)
  main-reported from main sub main' ws new reported (one w is at right) new_is high batch before next held =
      subst (AreHeld p.key from end main' sub) (sym (new_is ∙ ap (held_all ws) is ∙ room-for ws w (few-held p.key from end main sub ws held)))
      (held-main p.key from end main sub main' ws w at high batch before next held)

  sub-reported : (from main sub sub' : ℕ) (ws new reported : List A) → IsReported p.key p.right (sub_key sub) reported → new ≡ held_all ws reported
      → sub < end → sub ≤ from + clock.batch → sub < main → sub + clock.sub_gap ≤ sub' → AreHeld p.key from end main sub ws → AreHeld p.key from end main sub' new
  sub-reported from main sub sub' ws new reported (none is) new_is high batch before next held =
      subst (AreHeld p.key from end main sub') (sym (new_is ∙ ap (held_all ws) is)) (held-later p.key from end main sub main sub' ws (omega arith) (omega (arith, next)) held)
  sub-reported from main sub sub' ws new reported (one w is at right) new_is high batch before next held =
      subst (AreHeld p.key from end main sub') (sym (new_is ∙ ap (held_all ws) is ∙ room-for ws w (few-held p.key from end main sub ws held)))
      (held-sub p.key from end main sub sub' ws w at high batch before next held)

  right-reported : (at : Key) (ws new reported : List A) → IsReported p.key p.right at reported → new ≡ held_all ws reported → All (λ w. p.right w ≡ true) ws → All (λ w. p.right w ≡ true) new
  right-reported at ws new reported (none is) new_is all = subst (All (λ w. p.right w ≡ true)) (sym (new_is ∙ ap (held_all ws) is)) all
  right-reported at ws new reported (one w is same right) new_is all =
      subst (All (λ v. p.right v ≡ true)) (sym (new_is ∙ ap (held_all ws) is)) (All-held_with (λ v. p.right v ≡ true) ws w all right)

  main_by : (b : Bool) (x y : Console) (m : ℕ) → (m ≤ x.main.next → PortHolds p end x) → (m ≤ y.main.next → PortHolds p end y)
      → m ≤ (cond b x y).main.next → PortHolds p end (cond b x y)
  main_by true x y m first second late = first late
  main_by false x y m first second late = second late

  sub_by : (b : Bool) (x y : Console) (m : ℕ) → (m ≤ x.sub.state.next → PortHolds p end x) → (m ≤ y.sub.state.next → PortHolds p end y)
      → m ≤ (cond b x y).sub.state.next → PortHolds p end (cond b x y)
  sub_by true x y m first second late = first late
  sub_by false x y m first second late = second late

  batch_low : (b : Bool) (c f g : ℕ) → c ≤ f → c ≤ g → c ≤ cond b f g
  batch_low true c f g le le' = le
  batch_low false c f g le le' = le'

  main-move : (z : Console) → IsPaced z 0 → (key_in z 0).cycle < end → PortHolds p end z → PortHolds p end (main_moved z)
  unfolding key_in moved main_moved next_of sub_next_of
  main-move z paced below holds =
      let next : Key = main_key z.main.next in
      let sub_late : z.main.next ≤ z.sub.state.next = not_before z.sub.state.next z.main.next 1 0 (paced.least 1 (lit< tt)) in
      let batch : z.main.next ≤ next_batch p.fm z = batch_low p.fm z.main.next z.fm_cycle z.psg_cycle (not_before z.fm_cycle z.main.next 3 0 (paced.least 3 (lit< tt))) (not_before z.psg_cycle z.main.next 4 0 (paced.least 4 (lit< tt))) in
      let soon : z.main.next ≤ holds.from + clock.batch = omega (arith, batch, holds.next) in
      main_by (next_of z.main).sample _ _ (z.main.next + clock.main_gap)
      (λ late. record { from = holds.from; next = holds.next; held = held-later p.key holds.from end z.main.next z.sub.state.next _ z.sub.state.next (p.held z.shared) (omega (arith, late)) (omega arith) holds.held; right = holds.right })
      (λ late. record {
        from = holds.from;
        next = holds.next;
        held = main-reported holds.from z.main.next z.sub.state.next _ (p.held z.shared) _ _ (p.reported next _ (hearing z.shared) (main-for z.main.next _))
            (p.takes next _ z.shared _ (main-reports z.shared next (request_of z.cart z.main) 0 0).takes) below soon sub_late late holds.held;
        right = right-reported next (p.held z.shared) _ _ (p.reported next _ (hearing z.shared) (main-for z.main.next _)) (p.takes next _ z.shared _ (main-reports z.shared next (request_of z.cart z.main) 0 0).takes) holds.right;
      })
      paced.later

  sub-move : (z : Console) → IsPaced z 1 → (key_in z 1).cycle < end → PortHolds p end z → PortHolds p end (sub_moved z)
  unfolding key_in moved sub_moved next_of sub_next_of
  sub-move z paced below holds =
      let next : Key = sub_key z.sub.state.next in
      let main_late : z.sub.state.next < z.main.next = sub_before_main z.main.next z.sub.state.next (paced.least 0 (lit< tt)) in
      let batch : z.sub.state.next ≤ next_batch p.fm z = batch_low p.fm z.sub.state.next z.fm_cycle z.psg_cycle (not_before z.fm_cycle z.sub.state.next 3 1 (paced.least 3 (lit< tt))) (not_before z.psg_cycle z.sub.state.next 4 1 (paced.least 4 (lit< tt))) in
      let soon : z.sub.state.next ≤ holds.from + clock.batch = omega (arith, batch, holds.next) in
      sub_by (sub_next_of z.sub.state).sample _ _ (z.sub.state.next + clock.sub_gap)
      (λ late. record { from = holds.from; next = holds.next; held = held-later p.key holds.from end z.main.next z.sub.state.next z.main.next _ (p.held z.shared) (omega arith) (omega (arith, late)) holds.held; right = holds.right })
      (λ late. record {
        from = holds.from;
        next = holds.next;
        held = sub-reported holds.from z.main.next z.sub.state.next _ (p.held z.shared) _ _ (p.reported next _ (hearing z.shared) (sub-for z.shared next (asked_of z.sub.cart z.sub.state)))
            (p.takes next _ z.shared _ (sub_access-reports z.shared next (asked_of z.sub.cart z.sub.state)).reports.takes) below soon main_late late holds.held;
        right = right-reported next (p.held z.shared) _ _ (p.reported next _ (hearing z.shared) (sub-for z.shared next (asked_of z.sub.cart z.sub.state)))
            (p.takes next _ z.shared _ (sub_access-reports z.shared next (asked_of z.sub.cart z.sub.state)).reports.takes) holds.right;
      })
      paced.later

  line-move : (z : Console) → PortHolds p end z → PortHolds p end (line_moved z)
  unfolding line_moved
  line-move z holds = record {
    from = holds.from;
    next = holds.next;
    held = subst (AreHeld p.key holds.from end z.main.next z.sub.state.next) (sym (p.line z.shared z.line z.note)) holds.held;
    right = subst (All (λ w. p.right w ≡ true)) (sym (p.line z.shared z.line z.note)) holds.right;
  }

  -- a batch of the port, and one of the other
  not_below : (c d : ℕ) → not (nat_lt c d) ≡ true → d ≤ c
  not_below c d is = grind (arith, is)

  batch-left : (from cycle main sub : ℕ) (ws : List A) → cycle ≡ from + clock.batch → cycle ≤ main → cycle ≤ sub → AreHeld p.key from end main sub ws
      → AreHeld p.key cycle end main sub (left_from (λ w. (p.key w).cycle) cycle ws)
  batch-left from cycle main sub ws is late late' held =
      subst (λ (c : ℕ). AreHeld p.key c end main sub (left_from (λ w. (p.key w).cycle) c ws)) (sym is)
      (held-left p.key (λ w. not (nat_lt (p.key w).cycle (from + clock.batch))) from end main sub ws (λ w yes. not_below (p.key w).cycle (from + clock.batch) yes) (omega (arith, late, is)) (omega (arith, late', is)) held)

  right-left : (b : Bool) (cycle : ℕ) (ws : List A) → All (λ w. p.right w ≡ true) ws → All (λ w. p.right w ≡ true) (cond b (left_from (λ w. (p.key w).cycle) cycle ws) ws)
  right-left true cycle ws all = All-filter (λ w. not (nat_lt (p.key w).cycle cycle)) (λ w. p.right w ≡ true) ws all
  right-left false cycle ws all = all

  right-stays : (b : Bool) (cycle : ℕ) (ws : List A) → All (λ w. p.right w ≡ true) ws → All (λ w. p.right w ≡ true) (cond b ws (left_from (λ w. (p.key w).cycle) cycle ws))
  right-stays true cycle ws all = all
  right-stays false cycle ws all = All-filter (λ w. not (nat_lt (p.key w).cycle cycle)) (λ w. p.right w ≡ true) ws all

  fm_by : (fm : Bool) (z : Console) (new : List A) (from : ℕ) → next_batch fm z ≡ from + clock.batch → z.fm_cycle ≤ z.main.next → z.fm_cycle ≤ z.sub.state.next
      → new ≡ cond fm (left_from (λ w. (p.key w).cycle) z.fm_cycle (p.held z.shared)) (p.held z.shared)
      → AreHeld p.key from end z.main.next z.sub.state.next (p.held z.shared)
      → (to : ℕ) × (cond fm (z.fm_cycle + clock.batch) z.psg_cycle ≡ to + clock.batch) × AreHeld p.key to end z.main.next z.sub.state.next new
  fm_by true z new from is late late' new_is held =
      (z.fm_cycle, refl, subst (AreHeld p.key z.fm_cycle end z.main.next z.sub.state.next) (sym new_is) (batch-left from z.fm_cycle z.main.next z.sub.state.next (p.held z.shared) is late late' held))
  fm_by false z new from is late late' new_is held =
      (from, is, subst (AreHeld p.key from end z.main.next z.sub.state.next) (sym new_is) held)

  psg_by : (fm : Bool) (z : Console) (new : List A) (from : ℕ) → next_batch fm z ≡ from + clock.batch → z.psg_cycle ≤ z.main.next → z.psg_cycle ≤ z.sub.state.next
      → new ≡ cond fm (p.held z.shared) (left_from (λ w. (p.key w).cycle) z.psg_cycle (p.held z.shared))
      → AreHeld p.key from end z.main.next z.sub.state.next (p.held z.shared)
      → (to : ℕ) × (cond fm z.fm_cycle (z.psg_cycle + clock.batch) ≡ to + clock.batch) × AreHeld p.key to end z.main.next z.sub.state.next new
  psg_by false z new from is late late' new_is held =
      (z.psg_cycle, refl, subst (AreHeld p.key z.psg_cycle end z.main.next z.sub.state.next) (sym new_is) (batch-left from z.psg_cycle z.main.next z.sub.state.next (p.held z.shared) is late late' held))
  psg_by true z new from is late late' new_is held =
      (from, is, subst (AreHeld p.key from end z.main.next z.sub.state.next) (sym new_is) held)

  fm-move : (z : Console) → IsPaced z 3 → PortHolds p end z → PortHolds p end (fm_moved z)
  unfolding key_in fm_moved next_of sub_next_of
  fm-move z paced holds =
      let made = fm_by p.fm z _ holds.from holds.next (not_before z.main.next z.fm_cycle 0 3 (paced.least 0 (lit< tt))) (not_before z.sub.state.next z.fm_cycle 1 3 (paced.least 1 (lit< tt))) (p.fm_batch z.shared z.fm_cycle) holds.held in
      record { from = made.0; next = made.1; held = made.2; right = subst (All (λ w. p.right w ≡ true)) (sym (p.fm_batch z.shared z.fm_cycle)) (right-left p.fm z.fm_cycle (p.held z.shared) holds.right) }

  psg-move : (z : Console) → IsPaced z 4 → PortHolds p end z → PortHolds p end (psg_moved z)
  unfolding key_in psg_moved next_of sub_next_of
  psg-move z paced holds =
      let made = psg_by p.fm z _ holds.from holds.next (not_before z.main.next z.psg_cycle 0 4 (paced.least 0 (lit< tt))) (not_before z.sub.state.next z.psg_cycle 1 4 (paced.least 1 (lit< tt))) (p.psg_batch z.shared z.psg_cycle) holds.held in
      record { from = made.0; next = made.1; held = made.2; right = subst (All (λ w. p.right w ≡ true)) (sym (p.psg_batch z.shared z.psg_cycle)) (right-stays p.fm z.psg_cycle (p.held z.shared) holds.right) }

  pub move-holds : (z : Console) → PortHolds p end z → (i : ℕ) → i < 5 → IsPaced z i → (key_in z i).cycle < end → PortHolds p end (moved z i)
  unfolding moved
  move-holds z holds =
      five-each (λ i. IsPaced z i → (key_in z i).cycle < end → PortHolds p end (moved z i))
      (λ paced below. main-move z paced below holds) (λ paced below. sub-move z paced below holds) (λ paced below. line-move z holds)
      (λ paced below. fm-move z paced holds) (λ paced below. psg-move z paced holds)

  -- a run
  pub holds-ran : (m : Console) (n : ℕ) → ArePaced m n → AllBelow m end n → PortHolds p end m → PortHolds p end (ran m n)
  unfolding ran
  holds-ran m zero paced below first = first
  holds-ran m (suc n) paced below first =
      let z : Console = ran m n in
      let before : PortHolds p end z = holds-ran m n (λ k within. paced k (omega arith)) (λ k within. below k (omega arith)) first in
      move-holds z before (mover z) (mover-lt z) (paced n (omega arith)) (below n (omega arith))

  pub few-in : (z : Console) → PortHolds p end z → length (p.held z.shared) ≤ 936
  few-in z holds = few-held p.key holds.from end z.main.next z.sub.state.next (p.held z.shared) holds.held
