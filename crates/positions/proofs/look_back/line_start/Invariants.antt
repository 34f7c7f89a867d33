use Rattle.positions.proofs.lemmas.{◌-◌, ◌<◌}
use Rattle.positions.proofs.look_back.line_start.Given as goal

abbrev pub invariant-windows : goal.invariant-windows
invariant-windows g l = 0 < l.window

abbrev pub decreases-windows : goal.decreases-windows
decreases-windows g l = l.byte - l.window
