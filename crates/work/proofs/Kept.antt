-- The laws of all five jobs together.
use Rattle.work.specs.Laws.{LengthsKept, IntervalsKept, HeldLeft}
use Rattle.work.proofs.Laws.{starting_sized, pushing_sized, data_job_sized, blending_sized, moving_sized, projecting_sized, starting_in, pushing_saved, data_job_saved, blending_leaves, moving_saved, projecting_in, blending_left}

pub lengths_kept : LengthsKept
lengths_kept = record {
  start = starting_sized;
  push = pushing_sized;
  fidelity = data_job_sized;
  blend = blending_sized;
  move = moving_sized;
  project = projecting_sized;
}

pub intervals_kept : IntervalsKept
intervals_kept = record {
  start = starting_in;
  push = pushing_saved;
  fidelity = data_job_saved;
  blend = λ W H n held k b. (blending_leaves W H n held k b).2;
  move = moving_saved;
  project = projecting_in;
}

pub held_left : HeldLeft
held_left = blending_left
