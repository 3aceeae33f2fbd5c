-- The times of a call (docs/guide/bindings.md, "When a query reads").
use Rattle.std.specs.Prelude.{◌==◌, not}
use Rattle.promql_when.specs.declared.times.Times.{Times}
use Rattle.promql_c.specs.declared.call_times.CallTimes.{CallTimes}

abbrev pub times_of : CallTimes → Times
times_of ts =
    record {
      start = ts.start;
      end = ts.end;
      step = ts.step;
      lookback = ts.lookback;
      default_step = ts.default_step;
      is_left_open = not (ts.left_open == 0);
    }
