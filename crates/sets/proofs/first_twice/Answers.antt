-- `first_twice` meets its contract: with no code to meet, the walk down finds the first climb at fault.
use Rattle.sets.proofs.Searching.{led_empty}
use Rattle.sets.proofs.first_twice.Goals as goal

pub returns : goal.returns
returns c =
    led_empty c.args.rows.now c.args.statics.now c.args.n c.first_led.result c.first_led.ensures
