use Rattle.std.proofs.Common.{refl}
use Rattle.worked.proofs.worked_drives.Goals as goal
use Rattle.worked.proofs.WorkedMaps.{worked-map-is-sound, loop-map-is-sound}
use Rattle.worked.proofs.WorkedQuery.{front-of-the-worked-query, front-under-a-heater-of-0-watts}
use Rattle.worked.proofs.Advances.{five-labels-list-every-unbeaten-arrival, first-advance-over-five-labels-arrives-with-label-3, next-advance-over-five-labels-arrives-with-label-4, last-advance-over-five-labels-ends, four-labels-leave-an-unbeaten-arrival-unlisted, last-of-four-labels-is-at-the-goal-after-70-seconds, first-advance-over-four-labels-arrives-with-label-3, next-advance-over-four-labels-is-full}
use Rattle.worked.proofs.WorkedTrip.{front-of-the-worked-trip, chart-of-the-worked-trip, its-rows-tell-least-times, no-walk-without-a-row, from-950-on-the-least-time-is-70, from-700-to-949-the-least-time-is-110, up-to-699-there-is-no-row, up-to-699-there-is-no-drivable-walk}
use Rattle.worked.proofs.Draws.{charge-500-over-600-then-minus-500-is-not-drivable, plain-profile-over-600, then-over-minus-500, charge-900-over-minus-400-is-1000}
use Rattle.worked.proofs.LoopQuery.{twice-round-the-loop-arrives-after-20-seconds-with-50, no-drivable-walk-beats-it, no-drivable-walk-is-faster-than-20-seconds}

pub returns : goal.returns
returns c = record {
  worked-map-is-sound = worked-map-is-sound;
  front-of-the-worked-query = front-of-the-worked-query;
  front-under-a-heater-of-0-watts = front-under-a-heater-of-0-watts;
  five-labels-list-every-unbeaten-arrival = five-labels-list-every-unbeaten-arrival;
  first-advance-over-five-labels-arrives-with-label-3 = first-advance-over-five-labels-arrives-with-label-3;
  next-advance-over-five-labels-arrives-with-label-4 = next-advance-over-five-labels-arrives-with-label-4;
  last-advance-over-five-labels-ends = last-advance-over-five-labels-ends;
  four-labels-leave-an-unbeaten-arrival-unlisted = four-labels-leave-an-unbeaten-arrival-unlisted;
  last-of-four-labels-is-at-the-goal-after-70-seconds = last-of-four-labels-is-at-the-goal-after-70-seconds;
  first-advance-over-four-labels-arrives-with-label-3 = first-advance-over-four-labels-arrives-with-label-3;
  next-advance-over-four-labels-is-full = next-advance-over-four-labels-is-full;
  front-of-the-worked-trip = front-of-the-worked-trip;
  chart-of-the-worked-trip = chart-of-the-worked-trip;
  its-rows-tell-least-times = its-rows-tell-least-times;
  no-walk-without-a-row = no-walk-without-a-row;
  from-950-on-the-least-time-is-70 = from-950-on-the-least-time-is-70;
  from-700-to-949-the-least-time-is-110 = from-700-to-949-the-least-time-is-110;
  up-to-699-there-is-no-row = up-to-699-there-is-no-row;
  up-to-699-there-is-no-drivable-walk = up-to-699-there-is-no-drivable-walk;
  charge-500-over-600-then-minus-500-is-not-drivable = charge-500-over-600-then-minus-500-is-not-drivable;
  plain-profile-over-600 = plain-profile-over-600;
  then-over-minus-500 = then-over-minus-500;
  charge-900-over-minus-400-is-1000 = charge-900-over-minus-400-is-1000;
  loop-map-is-sound = loop-map-is-sound;
  twice-round-the-loop-arrives-after-20-seconds-with-50 = twice-round-the-loop-arrives-after-20-seconds-with-50;
  no-drivable-walk-beats-it = no-drivable-walk-beats-it;
  no-drivable-walk-is-faster-than-20-seconds = no-drivable-walk-is-faster-than-20-seconds;
  heater-of-1000-watts-for-60-seconds-adds-17 = refl;
  heater-of-100-watts-for-36-seconds-adds-1 = refl;
}
