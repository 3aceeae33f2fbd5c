-- The table of functions, as the document has it: a table with another row more or less, or in another place, differs.
use Rattle.std.specs.Prelude.{List, [], ◌∷◌, codes, pos, negsuc, true, false}
use Rattle.promql_kind.specs.Functions.{Signature, signature}
use Rattle.promql_kind.specs.declared.value.ValueType.TheVariants.{Vector, Scalar, Matrix, String}

-- the functions (docs/reference/functions.md, "The table"), in the order of their names: the types of the arguments, variadic (-1 is
-- `negsuc 0`), the type of the value, whether it is experimental
abbrev pub functions : List Signature
functions =
    signature (codes "abs") (Vector ∷ []) (pos 0) Vector false ∷
    signature (codes "absent") (Vector ∷ []) (pos 0) Vector false ∷
    signature (codes "absent_over_time") (Matrix ∷ []) (pos 0) Vector false ∷
    signature (codes "acos") (Vector ∷ []) (pos 0) Vector false ∷
    signature (codes "acosh") (Vector ∷ []) (pos 0) Vector false ∷
    signature (codes "asin") (Vector ∷ []) (pos 0) Vector false ∷
    signature (codes "asinh") (Vector ∷ []) (pos 0) Vector false ∷
    signature (codes "atan") (Vector ∷ []) (pos 0) Vector false ∷
    signature (codes "atanh") (Vector ∷ []) (pos 0) Vector false ∷
    signature (codes "avg_over_time") (Matrix ∷ []) (pos 0) Vector false ∷
    signature (codes "ceil") (Vector ∷ []) (pos 0) Vector false ∷
    signature (codes "changes") (Matrix ∷ []) (pos 0) Vector false ∷
    signature (codes "clamp") (Vector ∷ Scalar ∷ Scalar ∷ []) (pos 0) Vector false ∷
    signature (codes "clamp_max") (Vector ∷ Scalar ∷ []) (pos 0) Vector false ∷
    signature (codes "clamp_min") (Vector ∷ Scalar ∷ []) (pos 0) Vector false ∷
    signature (codes "cos") (Vector ∷ []) (pos 0) Vector false ∷
    signature (codes "cosh") (Vector ∷ []) (pos 0) Vector false ∷
    signature (codes "count_over_time") (Matrix ∷ []) (pos 0) Vector false ∷
    signature (codes "day_of_month") (Vector ∷ []) (pos 1) Vector false ∷
    signature (codes "day_of_week") (Vector ∷ []) (pos 1) Vector false ∷
    signature (codes "day_of_year") (Vector ∷ []) (pos 1) Vector false ∷
    signature (codes "days_in_month") (Vector ∷ []) (pos 1) Vector false ∷
    signature (codes "deg") (Vector ∷ []) (pos 0) Vector false ∷
    signature (codes "delta") (Matrix ∷ []) (pos 0) Vector false ∷
    signature (codes "deriv") (Matrix ∷ []) (pos 0) Vector false ∷
    signature (codes "double_exponential_smoothing") (Matrix ∷ Scalar ∷ Scalar ∷ []) (pos 0) Vector true ∷
    signature (codes "end") [] (pos 0) Scalar true ∷
    signature (codes "exp") (Vector ∷ []) (pos 0) Vector false ∷
    signature (codes "first_over_time") (Matrix ∷ []) (pos 0) Vector true ∷
    signature (codes "floor") (Vector ∷ []) (pos 0) Vector false ∷
    signature (codes "histogram_avg") (Vector ∷ []) (pos 0) Vector false ∷
    signature (codes "histogram_count") (Vector ∷ []) (pos 0) Vector false ∷
    signature (codes "histogram_fraction") (Scalar ∷ Scalar ∷ Vector ∷ []) (pos 0) Vector false ∷
    signature (codes "histogram_quantile") (Scalar ∷ Vector ∷ []) (pos 0) Vector false ∷
    signature (codes "histogram_quantiles") (Vector ∷ String ∷ Scalar ∷ Scalar ∷ []) (pos 9) Vector true ∷
    signature (codes "histogram_stddev") (Vector ∷ []) (pos 0) Vector false ∷
    signature (codes "histogram_stdvar") (Vector ∷ []) (pos 0) Vector false ∷
    signature (codes "histogram_sum") (Vector ∷ []) (pos 0) Vector false ∷
    signature (codes "hour") (Vector ∷ []) (pos 1) Vector false ∷
    signature (codes "idelta") (Matrix ∷ []) (pos 0) Vector false ∷
    signature (codes "increase") (Matrix ∷ []) (pos 0) Vector false ∷
    signature (codes "info") (Vector ∷ Vector ∷ []) (pos 1) Vector true ∷
    signature (codes "irate") (Matrix ∷ []) (pos 0) Vector false ∷
    signature (codes "label_join") (Vector ∷ String ∷ String ∷ String ∷ []) (negsuc 0) Vector false ∷
    signature (codes "label_replace") (Vector ∷ String ∷ String ∷ String ∷ String ∷ []) (pos 0) Vector false ∷
    signature (codes "last_over_time") (Matrix ∷ []) (pos 0) Vector false ∷
    signature (codes "ln") (Vector ∷ []) (pos 0) Vector false ∷
    signature (codes "log10") (Vector ∷ []) (pos 0) Vector false ∷
    signature (codes "log2") (Vector ∷ []) (pos 0) Vector false ∷
    signature (codes "mad_over_time") (Matrix ∷ []) (pos 0) Vector true ∷
    signature (codes "max_of") (Scalar ∷ Scalar ∷ []) (pos 0) Scalar true ∷
    signature (codes "max_over_time") (Matrix ∷ []) (pos 0) Vector false ∷
    signature (codes "min_of") (Scalar ∷ Scalar ∷ []) (pos 0) Scalar true ∷
    signature (codes "min_over_time") (Matrix ∷ []) (pos 0) Vector false ∷
    signature (codes "minute") (Vector ∷ []) (pos 1) Vector false ∷
    signature (codes "month") (Vector ∷ []) (pos 1) Vector false ∷
    signature (codes "pi") [] (pos 0) Scalar false ∷
    signature (codes "predict_linear") (Matrix ∷ Scalar ∷ []) (pos 0) Vector false ∷
    signature (codes "present_over_time") (Matrix ∷ []) (pos 0) Vector false ∷
    signature (codes "quantile_over_time") (Scalar ∷ Matrix ∷ []) (pos 0) Vector false ∷
    signature (codes "rad") (Vector ∷ []) (pos 0) Vector false ∷
    signature (codes "range") [] (pos 0) Scalar true ∷
    signature (codes "rate") (Matrix ∷ []) (pos 0) Vector false ∷
    signature (codes "resets") (Matrix ∷ []) (pos 0) Vector false ∷
    signature (codes "round") (Vector ∷ Scalar ∷ []) (pos 1) Vector false ∷
    signature (codes "scalar") (Vector ∷ []) (pos 0) Scalar false ∷
    signature (codes "sgn") (Vector ∷ []) (pos 0) Vector false ∷
    signature (codes "sin") (Vector ∷ []) (pos 0) Vector false ∷
    signature (codes "sinh") (Vector ∷ []) (pos 0) Vector false ∷
    signature (codes "sort") (Vector ∷ []) (pos 0) Vector false ∷
    signature (codes "sort_by_label") (Vector ∷ String ∷ []) (negsuc 0) Vector true ∷
    signature (codes "sort_by_label_desc") (Vector ∷ String ∷ []) (negsuc 0) Vector true ∷
    signature (codes "sort_desc") (Vector ∷ []) (pos 0) Vector false ∷
    signature (codes "sqrt") (Vector ∷ []) (pos 0) Vector false ∷
    signature (codes "start") [] (pos 0) Scalar true ∷
    signature (codes "stddev_over_time") (Matrix ∷ []) (pos 0) Vector false ∷
    signature (codes "stdvar_over_time") (Matrix ∷ []) (pos 0) Vector false ∷
    signature (codes "step") [] (pos 0) Scalar true ∷
    signature (codes "sum_over_time") (Matrix ∷ []) (pos 0) Vector false ∷
    signature (codes "tan") (Vector ∷ []) (pos 0) Vector false ∷
    signature (codes "tanh") (Vector ∷ []) (pos 0) Vector false ∷
    signature (codes "time") [] (pos 0) Scalar false ∷
    signature (codes "timestamp") (Vector ∷ []) (pos 0) Vector false ∷
    signature (codes "ts_of_first_over_time") (Matrix ∷ []) (pos 0) Vector true ∷
    signature (codes "ts_of_last_over_time") (Matrix ∷ []) (pos 0) Vector true ∷
    signature (codes "ts_of_max_over_time") (Matrix ∷ []) (pos 0) Vector true ∷
    signature (codes "ts_of_min_over_time") (Matrix ∷ []) (pos 0) Vector true ∷
    signature (codes "vector") (Scalar ∷ []) (pos 0) Vector false ∷
    signature (codes "year") (Vector ∷ []) (pos 1) Vector false ∷
    []
