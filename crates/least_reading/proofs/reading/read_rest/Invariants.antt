-- so many were read, each lies in its cell, and the two lists hold the k best
use Rattle.least_reading.specs.Prepared.{library_of, asked_of}
use Rattle.least_reading.specs.Answered.{HasRead}
use Rattle.least_reading.proofs.reading.read_rest.Given as goal

abbrev pub invariant-loop-done : goal.invariant-loop-done
invariant-loop-done l =
    let task = l.fn.task in
    HasRead (library_of task) (asked_of task) task.terms.k l.done l.keys l.best
