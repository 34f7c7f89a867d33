-- The statuses of making an index.
--     done        the index is made
--     not_utf8    the bytes are not UTF-8
--     no_room     the room is for another number of marks
use Rattle.std.specs.Prelude.{ℕ}

-- 1 is the status of memory, which C takes
abbrev pub done : ℕ
done = 0

abbrev pub not_utf8 : ℕ
not_utf8 = 2

abbrev pub no_room : ℕ
no_room = 3
