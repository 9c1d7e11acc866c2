use Rattle.std.proofs.Common.{◌∙◌, sym, refl, length}
use Rattle.std.proofs.lemmas.Option.{slice_get_read}
use Rattle.partial_path.proofs.Edges.{has_sink, is_cut_edge-found}
use Rattle.partial_path.proofs.stepping.is_cut_edge.Goals as goal

pub is_cut-requires : goal.is_cut-requires
is_cut-requires c =
    has_sink c.in-Some.graph.now c.args.edge.edge c.edge.result c.edge_count.ensures.checked c.edge.ensures

pub returns : goal.returns
returns c =
    let in_files = slice_get_read c.args.files.now (length c.args.files.now) c.args.edge.file c.in-Some.graph.now refl
    c.in-Some.ensures.lookup.3.0 c.in-Some.ensures.lookup.1 in
    c.is_cut.ensures ∙ sym (is_cut_edge-found c.args.files.now c.args.edge c.in-Some.graph.now c.edge.result in_files c.edge.ensures)
