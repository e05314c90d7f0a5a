pub mod WindowCalls
