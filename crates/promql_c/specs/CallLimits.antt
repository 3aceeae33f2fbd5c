-- The limits of a call (docs/guide/bindings.md, "Statuses").
use Rattle.std.specs.Option.{unwrap_or}
use Rattle.promql_span.specs.Targets.{target_numbered}
use Rattle.promql_span.specs.declared.differences.Printed.TheVariants.{Tree}
use Rattle.promql_span.specs.declared.limits.Limits.{Limits}
use Rattle.promql_span.specs.declared.target.Target.TheVariants.{Prometheus3}
use Rattle.promql_c.specs.declared.call_limits.CallLimits.{CallLimits}

-- a number that no target has stands for Prometheus 3
abbrev pub limits_of : CallLimits → Limits
limits_of l =
    record {
      max_len = l.max_len;
      max_pattern_size = l.max_pattern_size;
      max_output = l.max_output;
      target = unwrap_or (target_numbered l.target) Prometheus3;
      printed = Tree;
    }
