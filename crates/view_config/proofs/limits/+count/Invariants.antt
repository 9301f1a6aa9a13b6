use Rattle.std.proofs.Common.{◌≡◌, ◌+◌, ◌*◌, drop}
use Rattle.values.specs.Rose.{kids_of, rose_size, roses_size}
use Rattle.view_config.proofs.limits.+count.Given as goal

abbrev pub decreases-room_after : goal.decreases-room_after
decreases-room_after l = 2 * rose_size l.field.now

abbrev pub decreases-room_after_all : goal.decreases-room_after_all
decreases-room_after_all l = 2 * roses_size (kids_of l.fields.now) + 1

-- what is left, and all fields, are the room and the fields still to be counted
abbrev pub invariant-room_after_all-loop-field : goal.invariant-room_after_all-loop-field
invariant-room_after_all-loop-field l =
    l.left + roses_size (kids_of l.fields) ≡ l.fn.room + roses_size (kids_of (drop l.field-index l.fields))
