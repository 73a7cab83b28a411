use Rattle.office.proofs.Loading.{road_tables_load}
use Rattle.office.proofs.answers.answer_files.Goals as goal

pub unwrap-map-requires : goal.unwrap-map-requires
unwrap-map-requires c =
    let lent = c.lent.ensures in
    road_tables_load c.in_ok-tables.tables _ c.in_ok-tables.ensures.tables_map_the_roads c.lent.result lent.counts_lent lent.heads_lent lent.times_lent lent.draws_lent c.new.result _ c.new.ensures.refused_by_the_first_failing_check_else_over_these_tables
