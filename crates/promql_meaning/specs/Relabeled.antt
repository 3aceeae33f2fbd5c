-- What is seen under another name of a label (docs/guide/meaning.md, "Renamed labels").
use Rattle.std.specs.Prelude.{map}
use Rattle.promql_text.specs.Texts.{Text}
use Rattle.promql_rewrite.specs.Renaming.{Renaming, renamed_clause, renamed_matching, replaced}
use Rattle.promql_meaning.specs.Stores.{Store}
use Rattle.promql_meaning.specs.Seen.{Seen, aggregated, negated, operated, stepped, literal, instants, ranges, called, extended, Seens, none_seen, first_seen}

-- the store in which each series has under the old name what it has under the new one
abbrev pub under_old_name : Text → Text → Store → Store
under_old_name from to store = map (λ x. record { labels = λ l. x.labels (replaced from to l); samples = x.samples }) store

-- what is seen, with other series, and with the labels of clauses renamed
module _ (series : Store → Store) (r : Renaming) where
  abbrev mutual
    pub relabeled : Seen → Seen
    relabeled (aggregated op e p clause) = aggregated op (relabeled e) (all_relabeled p) (renamed_clause r clause)
    relabeled (negated e) = negated (relabeled e)
    relabeled (operated op x y j) = operated op (relabeled x) (relabeled y) (renamed_matching r j)
    relabeled (stepped e offset at range step) = stepped (relabeled e) offset at range step
    relabeled (literal t) = literal t
    relabeled (instants xs offset at) = instants (series xs) offset at
    relabeled (ranges xs offset at range mode) = ranges (series xs) offset at range mode
    relabeled (called f b es) = called f b (all_relabeled es)
    relabeled (extended name gives es) = extended name gives (all_relabeled es)

    pub all_relabeled : Seens → Seens
    all_relabeled none_seen = none_seen
    all_relabeled (first_seen e es) = first_seen (relabeled e) (all_relabeled es)
