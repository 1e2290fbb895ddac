pub mod PipelineLemmas
