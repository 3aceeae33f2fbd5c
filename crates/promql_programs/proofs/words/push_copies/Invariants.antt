use Rattle.std.proofs.Common.{◌≡◌, ◌++◌, map, string_bytes, take}
use Rattle.promql_programs.proofs.words.push_copies.Given as goal

-- the words so far are copied
abbrev pub invariant-loop-other : goal.invariant-loop-other
invariant-loop-other l =
    map string_bytes l.words.items ≡ map string_bytes l.fn.words.items ++ map string_bytes (take l.other-index l.others)
