use Rattle.asm_laws.proofs.Directive68 as main
use Rattle.asm_laws.proofs.RoundTrip80 as sub
use Rattle.asm_laws.proofs.round_trip.sources_are_assembled.Goals as goal

pub returns : goal.returns
returns c = record { main = main.every_round_trip; sub = sub.sub_round_trip }
