-- The tag function for tests.
use Rattle.std.specs.Prelude.{◌+◌, ◌%◌, sum, replicate}
use Rattle.sx_tag.specs.Mac.{Mac}

-- the tag for tests: 32 times the sum of the key and the message
unfoldable pub weak : Mac
weak key message = replicate 32 ((sum key + sum message) % 256)
