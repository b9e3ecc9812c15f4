use Rattle.std.proofs.Common.{◌∙◌, List, ℕ, ap, length, sym, arith}
use Rattle.md_asm_text.specs.Tokens.{tokens}
use Rattle.md_asm.specs.SeenCodes.{names_seen}
use Rattle.md_asm.specs.Kept.{SettlesOn}
use Rattle.md_asm.specs.Places as places
use Rattle.md_asm.specs.Rounds as rounds
use Rattle.md_asm.proofs.Slots.{settles_long}
use Rattle.md_asm.proofs.patching.patch.Goals as goal

pub put-requires : goal.put-requires
put-requires c =
    let entry = c.args.entry.now in
    let long = settles_long entry.z80 entry.body entry.long (tokens entry.text.now) entry.address c.in-Some.bytes.items (rw c.in-Some.is at c.requires.kept.known) in
    let same = ap length c.as_slice.ensures.value in
    let low = c.requires.kept.low in
    let whole = c.requires.whole in
    omega (arith, long, same, low, whole)

pub returns-in-Some : goal.returns-in-Some
returns-in-Some c =
    let entry = c.args.entry.now in
    let known : SettlesOn entry.z80 entry.body entry.long (tokens entry.text.now) entry.address c.in-Some.bytes.items = rw c.in-Some.is at c.requires.kept.known in
    ap rounds.Onto (c.put.ensures ∙ ap (λ (l : List ℕ). places.put c.args.memory.now entry.place l) c.as_slice.ensures.value)
    ∙ sym (ap (rounds.put_settled c.args.memory.now entry.place) (known (names_seen c.args.names.now)))
