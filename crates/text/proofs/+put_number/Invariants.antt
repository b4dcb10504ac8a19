-- The measure of the call of itself: the number, whose tens are put first. Assumes nothing.
use Rattle.text.proofs.+put_number.Given as goal

abbrev pub decreases-put_number : goal.decreases-put_number
decreases-put_number l = l.x
