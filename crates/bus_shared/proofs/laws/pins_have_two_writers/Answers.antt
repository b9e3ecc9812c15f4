use Rattle.bus_shared.proofs.Pinned.{main_leaves_sub_pins}
use Rattle.bus_shared.proofs.Touches.{batch_pins_stay, fm_batch_pins_stay, sub_pins_stay, writers}
use Rattle.bus_shared.proofs.laws.pins_have_two_writers.Goals as goal

pub returns-clause-all : goal.returns-clause-all
returns-clause-all c = writers

pub returns-clause-sub : goal.returns-clause-sub
returns-clause-sub c = sub_pins_stay

pub returns-clause-batch : goal.returns-clause-batch
returns-clause-batch c = batch_pins_stay

pub returns-clause-fm_batch : goal.returns-clause-fm_batch
returns-clause-fm_batch c = fm_batch_pins_stay

pub returns-clause-beside : goal.returns-clause-beside
returns-clause-beside c = main_leaves_sub_pins
